-- Where a text is cut.
use Rattle.std.proofs.Common.{◌≡◌, ℕ, suc, List, [], ◌∷◌, ◌++◌, sym, refl, ◌∙◌, arith}
use Rattle.text.specs.Words.{Lacks, CutAt}

lacks_tail : (c x : ℕ) (xs : List ℕ) → Lacks c (x ∷ xs) → Lacks c xs
lacks_tail c x xs h k lt e = h (suc k) (omega arith) e

same_parts : (c : ℕ) (a b x y : List ℕ) → Lacks c a → Lacks c x → a ++ c ∷ b ≡ x ++ c ∷ y → (a ≡ x) × (b ≡ y)
same_parts c [] b [] y h k e = (refl, cc)
same_parts c [] b (u ∷ x) y h k e = absurd (k 0 (omega arith) (cc))
same_parts c (u ∷ a) b [] y h k e = absurd (h 0 (omega arith) (cc))
same_parts c (u ∷ a) b (v ∷ x) y h k e =
    let s = same_parts c a b x y (lacks_tail c u a h) (lacks_tail c v x k) (cc) in
    (let head : u ≡ v = cc in let rest = s.0 in cc, s.1)

-- a text is cut in one way only
pub cut_once : {c : ℕ} {t a b x y : List ℕ} → CutAt c t a b → CutAt c t x y → (a ≡ x) × (b ≡ y)
cut_once {c} {t} {a} {b} {x} {y} p q = same_parts c a b x y p.first q.first (sym p.is ∙ q.is)

-- a text that lacks the byte is not cut there
pub no_cut : (c : ℕ) (t a b : List ℕ) → Lacks c t → t ≡ a ++ c ∷ b → ⊥
no_cut c [] [] b h e = let z : ◌≡◌ {A = ℕ} 0 1 = cc in omega arith
no_cut c [] (x ∷ a) b h e = let z : ◌≡◌ {A = ℕ} 0 1 = cc in omega arith
no_cut c (x ∷ t) [] b h e = h 0 (omega arith) (cc)
no_cut c (x ∷ t) (y ∷ a) b h e = no_cut c t a b (lacks_tail c x t h) (cc)
