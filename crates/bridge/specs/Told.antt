-- The answer of check as one number.
use Rattle.std.specs.Prelude.{◌≡◌, ℕ, ◌<◌, List, Ok, Err, Result}
use Rattle.archive.specs.Checks.{Checks}
use Rattle.archive.specs.declared.fault.NoRoom.{NoRoom}

-- the length of the answer; or the greatest number of 64 bits, which no length is
abbrev pub Numbers : Result ℕ NoRoom → ℕ → Type 0
Numbers (Ok n) r = (r ≡ n) × (n < 18446744073709551615)
Numbers (Err e) r = r ≡ 18446744073709551615

-- what check answers, told by that number
abbrev pub Told : List ℕ → List ℕ → ℕ → List ℕ → Type 0
Told text was r now = (answer : Result ℕ NoRoom) × Checks text was answer now × Numbers answer r
