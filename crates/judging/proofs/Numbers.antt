-- Rows by number and by place.
use Rattle.std.proofs.Common.{◌≡◌, ℕ, zero, suc, ◌+◌, ◌<◌, List, ℤ, ap, ◌∙◌, add-one, arith}
use Rattle.parts.specs.declared.quantity.Decinewtons.{Decinewtons}
use Rattle.judging.specs.Judging.{RowNumber}
use Rattle.judging.specs.Rows.{row, row_at}

pub row_there : (rows : List Decinewtons) (n k : ℕ) → n ≡ k + 1 → row rows n ≡ (row_at rows k).0
row_there rows n k e = ap (row rows) (e ∙ add-one k)

-- what holds at each place holds of each number
pub by_number : (rows : List Decinewtons) (P : ℕ → ℤ → Type 0) → ((k : ℕ) → k < 19 → P (suc k) (row_at rows k).0) → (n : ℕ) → RowNumber n → P n (row rows n)
by_number rows P h zero ok = absurd (omega arith)
by_number rows P h (suc k) ok = h k (omega arith)
