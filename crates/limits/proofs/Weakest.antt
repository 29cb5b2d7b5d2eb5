-- The first of the weakest.
use Rattle.std.proofs.Common.{◌≡◌, ℕ, List, [], ◌∷◌, ◌++◌, pos, ◌≤ℤ◌, ◌<ℤ◌, sym, subst, arith}
use Rattle.std.specs.List.{AllByRecursion}
use Rattle.std.proofs.ByRecursion.{All-weaker}
use Rattle.std.proofs.lemmas.Int.{ints, by_lt_z}
use Rattle.limits.specs.declared.rated.Rated.{Rated}
use Rattle.limits.specs.Foremost.{Ranking}
use Rattle.limits.specs.Rating.{rating, strength_of, Weaker, FirstWeakest}
use Rattle.limits.proofs.First.{lone_first, none_beats, first_wins, second_wins}

pub by_strength : Ranking Weaker
by_strength = record {
  once = λ x y a b. omega (arith, ints);
  chase = λ x y z a b. grind (arith, ints);
  chain = λ x y z a b d. grind (arith, ints);
}

pub lone_weakest : (n s : ℕ) (r : Rated) → r.number ≡ n → strength_of r ≡ pos s → FirstWeakest (rating n s ∷ []) r
lone_weakest n s r a b =
    let e : rating n s ≡ r = λ i. record { number = sym a i; strength = record { 0 = sym b i } } in
    subst (λ x. FirstWeakest (x ∷ []) r) (sym e) (0, lone_first Weaker r)

pub second_weaker : {xs ys : List Rated} {p q : Rated} → FirstWeakest xs p → FirstWeakest ys q → strength_of q <ℤ strength_of p → FirstWeakest (xs ++ ys) q
second_weaker u v less = (_, second_wins by_strength u.1 v.1 less)

pub first_as_weak : {xs ys : List Rated} {p q : Rated} → FirstWeakest xs p → FirstWeakest ys q → (strength_of q <ℤ strength_of p → ⊥) → FirstWeakest (xs ++ ys) p
first_as_weak u v less = (_, first_wins by_strength u.1 v.1 less)

pub none_weaker : {xs : List Rated} {r : Rated} → FirstWeakest xs r → AllByRecursion (λ x. strength_of r ≤ℤ strength_of x) xs
none_weaker {xs} {r} w = All-weaker (λ x. Weaker x r → ⊥) (λ x. strength_of r ≤ℤ strength_of x) (λ x h. grind (arith, ints)) xs (none_beats by_strength w.1)

pub weaker_of : {xs ys : List Rated} {p q : Rated} (r : Rated) → FirstWeakest xs p → FirstWeakest ys q
    → (strength_of p ≤ℤ strength_of q → r ≡ p) → (strength_of q <ℤ strength_of p → r ≡ q) → FirstWeakest (xs ++ ys) r
weaker_of {xs} {ys} {p} {q} r u v first second =
    by_lt_z (strength_of q) (strength_of p)
    (λ l. subst (FirstWeakest (xs ++ ys)) (sym (second l)) (second_weaker u v l))
    (λ h. subst (FirstWeakest (xs ++ ys)) (sym (first h)) (first_as_weak u v (λ l. omega (arith, ints))))
