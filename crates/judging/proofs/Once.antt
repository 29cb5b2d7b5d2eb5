-- The rules give one judgment.
use Rattle.std.proofs.Common.{◌≡◌, ℕ, ◌<◌, List, length, ℤ, ◌≤ℤ◌, ◌<ℤ◌, sym, ap, ◌∙◌, subst, ⊎_elim, arith}
use Rattle.std.proofs.lemmas.Int.{ints}
use Rattle.std.proofs.lemmas.Bool.{cases_lt}
use Rattle.parts.specs.declared.hole.Hole.{Hole}
use Rattle.parts.specs.declared.quantity.Decinewtons.{Decinewtons}
use Rattle.chains.proofs.Ends.{least_unique}
use Rattle.limits.specs.Rating.{strength_of}
use Rattle.limits.specs.declared.rated.Rated.{Rated}
use Rattle.judging.specs.Judging.{RowNumber, state_at, Safe, Reversing, Judged}
use Rattle.judging.specs.Rows.{row}
use Rattle.judging.specs.declared.judgment.Judgment.{Judgment}
use Rattle.judging.proofs.Sayings.{said_once}
use Rattle.judging.proofs.Told.{named_least}

same : (a b : ℤ) → a ≤ℤ b → b ≤ℤ a → a ≡ b
same a b h k = omega (arith, ints)

never : (a b : ℤ) → a ≤ℤ b → b <ℤ a → ⊥
never a b h k = omega (arith, ints)

-- the first of the best among numbers is one
one : (P : ℕ → Type 0) (better : ℕ → ℕ → Type 0) (a b : ℕ) → P a → P b
    → ((k : ℕ) → P k → better k a → ⊥) → ((k : ℕ) → P k → k < a → better a k)
    → ((k : ℕ) → P k → better k b → ⊥) → ((k : ℕ) → P k → k < b → better b k) → a ≡ b
one P better a b p q none-a first-a none-b first-b =
    ⊎_elim (λ lt. absurd (none-a b q (first-b a p lt)))
    (λ ge. ⊎_elim (λ lt. absurd (none-b a p (first-a b q lt))) (λ le. omega arith) (cases_lt b a))
    (cases_lt a b)

module _ {rows : List Decinewtons} {states : List Rated} {bar : ℕ} {holes : List Hole} {i j : Judgment} {c e : List ℕ}
    (p : Judged rows states bar holes i c) (q : Judged rows states bar holes j e) where
  one_row : i.row ≡ j.row
  one_row =
      one RowNumber (λ k n. row rows n <ℤ row rows k) i.row j.row p.row_stands q.row_stands
      (λ k ok. never _ _ (p.none_above k ok)) p.row_first (λ k ok. never _ _ (q.none_above k ok)) q.row_first

  one_place : p.place ≡ q.place
  one_place =
      one (λ k. k < length states) (λ k n. strength_of (state_at states k) <ℤ strength_of (state_at states n)) p.place q.place p.state_stands q.state_stands
      (λ k ok. never _ _ (p.none_weaker k ok)) (λ k _. p.state_first k) (λ k ok. never _ _ (q.none_weaker k ok)) (λ k _. q.state_first k)

  one_least : i.least.0 ≡ j.least.0
  one_least =
      let m = p.least_told in
      let n = q.least_told in
      same _ _ (subst (λ v. i.least.0 ≤ℤ v) (sym n.2) (p.none_under n.0 n.1)) (subst (λ v. j.least.0 ≤ℤ v) (sym m.2) (q.none_under m.0 m.1))

  one_greatest : i.greatest.0 ≡ j.greatest.0
  one_greatest = p.greatest_told ∙ ap (row rows) one_row ∙ sym q.greatest_told

  one_strength : i.strength.0 ≡ j.strength.0
  one_strength = sym p.strength_told ∙ ap (λ k. strength_of (state_at states k)) one_place ∙ q.strength_told

  one_state : i.state ≡ j.state
  one_state = sym p.state_told ∙ ap (λ k. (state_at states k).number) one_place ∙ q.state_told

  one_kind : i.kind ≡ j.kind
  one_kind =
      said_once i.kind j.kind (Safe rows states) (Reversing rows) ((Safe rows states → ⊥) × (Reversing rows → ⊥))
      p.passes q.passes p.reverses q.reverses p.overstressed q.overstressed

  one_width : i.net_width.0 ≡ j.net_width.0
  one_width =
      p.width_told ∙ same _ _ (p.none_narrower e q.chain_stands) (q.none_narrower c p.chain_stands) ∙ sym q.width_told

  one_judgment : i ≡ j
  one_judgment = λ t. record {
    kind = one_kind t;
    row = one_row t;
    state = one_state t;
    greatest = record { 0 = one_greatest t };
    strength = record { 0 = one_strength t };
    net_width = record { 0 = one_width t };
    least = record { 0 = one_least t };
  }

  one_chain : c ≡ e
  one_chain = least_unique bar holes c e (named_least p) (named_least q)

  pub judged_once : (i ≡ j) × (c ≡ e)
  judged_once = (one_judgment, one_chain)
