-- The first of the weakest limit states of a bank, by its place.
use Rattle.std.proofs.Common.{◌≡◌, ℕ, ◌<◌, List, ◌∷◌, length, get_or, ◌≤ℤ◌, ◌<ℤ◌, sym, ap, ◌∙◌, subst, arith}
use Rattle.std.proofs.ByRecursion.{All-get_or}
use Rattle.std.proofs.lemmas.List.{get_or_append_left, get_or_at, length-append}
use Rattle.limits.specs.Rating.{strength_of, rating, Weaker, FirstWeakest}
use Rattle.limits.specs.declared.rated.Rated.{Rated}
use Rattle.limits.proofs.Weakest.{none_weaker}
use Rattle.judging.specs.Judging.{state_at}

module _ {states : List Rated} {r : Rated} (w : FirstWeakest states r) where
  pub state_within : w.0 < length states
  state_within = omega (arith, ap length w.1.stands, length-append w.1.before (r ∷ w.1.after), w.1.place)

  pub state_is : state_at states w.0 ≡ r
  state_is = ap (λ xs. state_at xs w.0) w.1.stands ∙ get_or_at w.1.before r w.1.after (rating 0 0) w.0 w.1.place

  pub none_under_it : (k : ℕ) → k < length states → strength_of r ≤ℤ strength_of (state_at states k)
  none_under_it k h = All-get_or (λ x. strength_of r ≤ℤ strength_of x) states k (rating 0 0) h (none_weaker w)

  pub stronger_before : (k : ℕ) → k < w.0 → strength_of r <ℤ strength_of (state_at states k)
  stronger_before k h =
      let in' : k < length w.1.before = omega (arith, w.1.place) in
      let e : state_at states k ≡ get_or w.1.before k (rating 0 0) =
      ap (λ xs. state_at xs k) w.1.stands ∙ get_or_append_left w.1.before (r ∷ w.1.after) (rating 0 0) k in' in
      subst (λ x. strength_of r <ℤ strength_of x) (sym e) (All-get_or (λ x. Weaker r x) w.1.before k (rating 0 0) in' w.1.ahead)
