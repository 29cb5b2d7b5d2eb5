-- A minus sign before figures.
use Rattle.std.proofs.Common.{◌≡◌, ℕ, suc, ◌-◌, ◌<◌, List, ◌∷◌, length, get_or, take, drop, ℤ, pos, negsuc, decimal, sym, ap, ◌∙◌, arith}
use Rattle.std.proofs.lemmas.Str.Parse.{digit_at}
use Rattle.std.proofs.lemmas.Slice.{first_rest}
use Rattle.text.specs.Figures.{Writes, WritesSigned}
use Rattle.text.proofs.Figures.{figures, number_once}

pub tail : (t : List ℕ) (b : ℕ) → 0 < length t → get_or t 0 0 ≡ b → t ≡ b ∷ take (length t - 1) (drop 1 t)
tail t b h e = first_rest t 0 h ∙ ap (λ x. x ∷ take (length t - 1) (drop 1 t)) e

pub no_minus : (t r : List ℕ) → t ≡ 45 ∷ r → ((n : ℕ) → 0 < n → Writes r n → ⊥) → (z : ℤ) → WritesSigned t z → ⊥
no_minus t r e none (pos n) w =
    let f = figures n t w in
    let d = digit_at t 0 f.all f.some in
    let z : get_or t 0 0 ≡ 45 = ap (λ l. get_or l 0 0) e in
    omega arith
no_minus t r e none (negsuc n) w = none (suc n) (omega arith) (w.0, cc)

pub not_zero : (r : List ℕ) → r ≡ decimal 0 → (n : ℕ) → 0 < n → Writes r n → ⊥
not_zero r e n p w = let s = number_once 0 n (omega arith) w.0 (sym e ∙ w.1) in omega arith
