use Rattle.std.proofs.Common.{take}
use Rattle.std.specs.List.{flat_map}
use Rattle.text.specs.Drafts.{Adds}
use Rattle.sections.proofs.Spaced.{after_space}
use Rattle.sections.proofs.line.write_line.Given as goal

abbrev pub invariant-loop-piece : goal.invariant-loop-piece
invariant-loop-piece l = Adds l.initial.draft (flat_map after_space (take l.piece-index l.others)) l.draft
