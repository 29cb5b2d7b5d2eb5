use Rattle.std.proofs.Common.{Ok}
use Rattle.reading.specs.Stages.{Leads, with_holes}
use Rattle.reading.proofs.reader.Reader.hole_lines.Given as goal

abbrev pub invariant-loop-i : goal.invariant-loop-i
invariant-loop-i l = Leads (with_holes l.count 0) (with_holes l.count l._i) l.initial.self (Ok tt) l.self
