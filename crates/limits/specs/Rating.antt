-- What a bank's answer is: the first of the weakest.
use Rattle.std.specs.Prelude.{ℕ, ◌≤◌, List, ℤ, pos, ◌≤ℤ◌, ◌<ℤ◌}
use Rattle.limits.specs.Foremost.{Foremost}
use Rattle.limits.specs.declared.rated.Rated.{Rated}

abbrev pub rating : ℕ → ℕ → Rated
rating n s = record { number = n; strength = record { 0 = pos s } }

abbrev pub strength_of : Rated → ℤ
strength_of r = r.strength.0

-- of less strength
abbrev pub Weaker : Rated → Rated → Type 0
Weaker x y = strength_of x <ℤ strength_of y

abbrev pub FirstWeakest : List Rated → Rated → Type 0
FirstWeakest xs r = (k : ℕ) × Foremost Weaker xs k r

-- what every limit state of a bank keeps to
pub record Lawful (r : Rated) : Type 0 where
  pub lowest : 1 ≤ r.number
  pub highest : r.number ≤ 99
  pub least : pos 0 ≤ℤ strength_of r
  pub moderate : strength_of r ≤ℤ pos 1000000000
