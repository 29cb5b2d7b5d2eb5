-- Numbers on a page.
use Rattle.std.specs.Prelude.{◌≡◌, ℕ, suc, ◌<◌, List, ℤ, pos, negsuc, Some, None, decimal, Option}
use Rattle.std.specs.Fmt.{signed_decimal}

-- at most nine figures
abbrev pub Nine : ℤ → Type 0
Nine (pos n) = n < 1000000000
Nine (negsuc n) = suc n < 1000000000

-- the text writes the number n, of at most nine figures
abbrev pub Writes : List ℕ → ℕ → Type 0
Writes text n = (n < 1000000000) × (text ≡ decimal n)

-- the same, with a minus sign before a number under 0
abbrev pub WritesSigned : List ℕ → ℤ → Type 0
WritesSigned text z = Nine z × (text ≡ signed_decimal z)

-- the number that the text writes, or none where it writes none
abbrev pub Tells : List ℕ → Option ℕ → Type 0
Tells text None = (n : ℕ) → Writes text n → ⊥
Tells text (Some n) = Writes text n

-- the same of signed numbers
abbrev pub TellsSigned : List ℕ → Option ℤ → Type 0
TellsSigned text None = (z : ℤ) → WritesSigned text z → ⊥
TellsSigned text (Some z) = WritesSigned text z
