-- What the number of a right piece means.
use Rattle.std.proofs.Common.{◌≡◌, ℕ, ℤ, pos, negsuc, None, sym, ◌∙◌, subst, arith}
use Rattle.text.specs.Figures.{Writes, WritesSigned, Tells, TellsSigned}
use Rattle.text.specs.Pieces.{said, signed_of, unsigned_of, Right, Sound}
use Rattle.text.specs.declared.pieces.Piece.{Piece}
use Rattle.text.specs.declared.pieces.Piece.TheVariants.{Word, Number}
use Rattle.text.proofs.Figures.{signed_once}

pub unsigned_means : (p : Piece) → Right p → Tells (said p) (unsigned_of p)
unsigned_means (Word t l) h = λ n w. h (pos n) w
unsigned_means (Number t l (pos n)) h = h
unsigned_means (Number t l (negsuc m)) h = λ n w.
    let e = signed_once (negsuc m) (pos n) h.0 w.0 (sym h.1 ∙ w.1) in
    let z : ◌≡◌ {A = ℕ} 0 1 = cc in
    omega arith

-- the same, as a caller of `unsigned` and `signed` has them
pub unsigned_none : {at : ℕ} {p : Piece} → Sound at p → None ≡ unsigned_of p → (n : ℕ) → Writes (said p) n → ⊥
unsigned_none {at} {p} s e = subst (Tells (said p)) (sym e) (unsigned_means p s.right)

pub signed_none : {at : ℕ} {p : Piece} → Sound at p → None ≡ signed_of p → (z : ℤ) → WritesSigned (said p) z → ⊥
signed_none {at} {p} s e = subst (TellsSigned (said p)) (sym e) s.right
