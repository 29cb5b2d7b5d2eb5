-- The pieces of a line, one by one.
use Rattle.std.proofs.Common.{◌≡◌, ℕ, zero, suc, List, [], ◌∷◌, length, get_or, sym, refl, ap, ◌∙◌, subst, arith}
use Rattle.text.specs.Cursors.{Takes}
use Rattle.text.specs.declared.cursor.Cursor.{Cursor}

-- n elements from this place on
abbrev pub elements : {X : Type 0} → List X → X → ℕ → ℕ → List X
elements xs d i zero = []
elements xs d i (suc n) = get_or xs i d ∷ elements xs d (suc i) n

elements_tail : {X : Type 0} (x : X) (xs : List X) (d : X) (i n : ℕ) → elements (x ∷ xs) d (suc i) n ≡ elements xs d i n
elements_tail x xs d i zero = refl
elements_tail x xs d i (suc n) = ap (λ l. get_or xs i d ∷ l) (elements_tail x xs d (suc i) n)

listed : {X : Type 0} (xs : List X) (d : X) (n : ℕ) → length xs ≡ n → xs ≡ elements xs d 0 n
listed [] d zero h = refl
listed [] d (suc n) h = absurd (omega arith)
listed (x ∷ xs) d zero h = absurd (omega arith)
listed (x ∷ xs) d (suc n) h = ap (λ l. x ∷ l) (listed xs d n (omega arith) ∙ sym (elements_tail x xs d 0 n))

-- a line of n pieces, as a pattern has them
pub takes_each : {P : Type 0} {said : P → List ℕ} {is_sound : ℕ → P → Type 0} {was now : Cursor} {ps : List P} {n : ℕ} (d : P) → (length ps ≡ n) × Takes said is_sound was ps now → Takes said is_sound was (elements ps d 0 n) now
takes_each {P} {said} {is_sound} {was} {now} {ps} {n} d h = subst (λ l. Takes said is_sound was l now) (listed ps d n h.0) h.1
