-- A hole that joins the row, or leaves it: the others stay as they are.
use Rattle.std.proofs.Common.{◌≡◌, ℕ, true, false, List, [], ◌∷◌, refl, arith}
use Rattle.std.specs.List.Sorted.{IsPermutation}
use Rattle.std.proofs.lemmas.List.Sorted.{IsPermutation-refl, IsPermutation-trans, IsPermutation-cons, IsPermutation-swap}
use Rattle.std.proofs.lemmas.Bool.{cond_both, both_ways}
use Rattle.parts.specs.declared.hole.Hole.{Hole}
use Rattle.parts.specs.Holes.{before, centred}
use Rattle.sheet.specs.Law.{add, pairs, has_centre, without}
use Rattle.sheet.specs.Numbering.{Joins, Leaves}
use Rattle.sheet.proofs.Holes.{or_rest, pairs_without}

-- the first two change places
swapped : (a b : Hole) (hs : List Hole) → IsPermutation (a ∷ b ∷ hs) (b ∷ a ∷ hs)
swapped a b hs = IsPermutation-swap (a ∷ b ∷ hs) (b ∷ a ∷ hs) 0 1 (omega arith) (omega arith) refl

add_same : (h : Hole) (hs : List Hole) → IsPermutation (h ∷ hs) (add h hs)
add_same h [] = IsPermutation-refl _
add_same h (k ∷ ks) =
    cond_both (before k h) _ _ (λ l. IsPermutation (h ∷ k ∷ ks) l)
    (λ t. IsPermutation-trans _ _ _ (swapped h k ks) (IsPermutation-cons k _ _ (add_same h ks))) (λ t. IsPermutation-refl _)

pub joins : (h : Hole) (hs : List Hole) → pairs before (add h hs) ≡ true → Joins h hs (add h hs)
joins h hs order = record { same = add_same h hs; order = order }

Left : ℕ → ℕ → List Hole → List Hole → Type 0
Left x y old new = (m : Hole) × (centred x y m ≡ true) × IsPermutation (m ∷ new) old

left : (x y : ℕ) (hs : List Hole) → has_centre x y hs ≡ true → Left x y hs (without x y hs)
unfolding Left
left x y [] e = absurd (both_ways false refl e)
left x y (k ∷ ks) e =
    cond_both (centred x y k) _ _ (Left x y (k ∷ ks)) (λ t. (k, t, IsPermutation-refl _))
    (λ f. let rest = left x y ks (or_rest (centred x y k) (has_centre x y ks) e f) in
    (rest.0, rest.1, IsPermutation-trans _ _ _ (swapped rest.0 k (without x y ks)) (IsPermutation-cons k _ _ rest.2)))

pub leaves : (x y : ℕ) (hs : List Hole) → pairs before hs ≡ true → has_centre x y hs ≡ true → Leaves x y hs (without x y hs)
unfolding Left
leaves x y hs order e =
    let l = left x y hs e in record { hole = l.0; centre = l.1; same = l.2; order = pairs_without before x y hs order }
