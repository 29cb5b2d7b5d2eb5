use Rattle.std.proofs.Common.{take}
use Rattle.text.specs.Drafts.{Adds}
use Rattle.text.proofs.draft.Draft.number.Given as goal

abbrev pub invariant-loop-b : goal.invariant-loop-b
invariant-loop-b g l = Adds l.initial.self (take l.b-index l.b-items) l.self
