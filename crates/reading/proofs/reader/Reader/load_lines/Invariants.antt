use Rattle.std.proofs.Common.{Ok}
use Rattle.reading.specs.Stages.{Leads, at_loads, with_loads}
use Rattle.reading.proofs.reader.Reader.load_lines.Given as goal

abbrev pub invariant-loop-i : goal.invariant-loop-i
invariant-loop-i l = Leads at_loads (with_loads l._i l.seen) l.initial.self (Ok tt) l.self
