-- Equal lists of two, three and four, head by head.
use Rattle.std.proofs.Common.{◌≡◌, ℕ, List, [], ◌∷◌}

pub two_heads : {a b w x : List ℕ} → ◌≡◌ {A = List (List ℕ)} (a ∷ b ∷ []) (w ∷ x ∷ []) → (a ≡ w) × (b ≡ x)
two_heads {a} {b} {w} {x} e = (cc, cc)

pub three_heads : {a b c w x y : List ℕ} → ◌≡◌ {A = List (List ℕ)} (a ∷ b ∷ c ∷ []) (w ∷ x ∷ y ∷ []) → (a ≡ w) × (b ≡ x) × (c ≡ y)
three_heads {a} {b} {c} {w} {x} {y} e = (cc, cc, cc)

pub four_heads : {a b c d w x y z : List ℕ} → ◌≡◌ {A = List (List ℕ)} (a ∷ b ∷ c ∷ d ∷ []) (w ∷ x ∷ y ∷ z ∷ []) → (a ≡ w) × (b ≡ x) × (c ≡ y) × (d ≡ z)
four_heads {a} {b} {c} {d} {w} {x} {y} {z} e = (cc, cc, cc, cc)
