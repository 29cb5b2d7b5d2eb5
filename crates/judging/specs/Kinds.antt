-- The number of each kind of judgment.
use Rattle.std.specs.Prelude.{ℕ}
use Rattle.judging.specs.declared.judgment.Kind.{Kind}
use Rattle.judging.specs.declared.judgment.Kind.TheVariants.{Passes, Overstressed, Reverses}

abbrev pub verdict_number : Kind → ℕ
verdict_number Passes = 0
verdict_number Overstressed = 1
verdict_number Reverses = 2
