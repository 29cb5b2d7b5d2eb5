use Rattle.std.proofs.Common.{vec_items}
use Rattle.archive.proofs.Runs.{Ran}
use Rattle.archive.proofs.replay.replay.Given as goal

abbrev pub invariant-loop-place : goal.invariant-loop-place
invariant-loop-place g l = Ran (g.B.Bank.rated l.bank) l.calls l.place (vec_items l.answers) l.state
