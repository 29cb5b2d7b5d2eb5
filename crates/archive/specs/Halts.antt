-- How it is told that a list is not replayed to its end.
use Rattle.std.specs.Prelude.{ℕ, ◌+◌, ◌-◌, ◌^◌, min, List, ◌++◌, codes, decimal}
use Rattle.archive.specs.declared.call.Halt.{Halt}
use Rattle.archive.specs.declared.call.Halt.TheVariants.{OutOfOrder, NoMemory}

-- the call is counted from 1
abbrev pub halt_text : Halt → List ℕ
halt_text (OutOfOrder place) = codes "out of order: call " ++ decimal (min (place + 1) (2 ^ 64 - 1))
halt_text NoMemory = codes "no memory"
