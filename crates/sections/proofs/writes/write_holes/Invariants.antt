use Rattle.std.proofs.Common.{take}
use Rattle.std.specs.List.{flat_map}
use Rattle.text.specs.Drafts.{Adds}
use Rattle.sections.specs.Texts.{hole_line}
use Rattle.sections.proofs.writes.write_holes.Given as goal

abbrev pub invariant-loop-hole : goal.invariant-loop-hole
invariant-loop-hole l = Adds l.initial.draft (flat_map hole_line (take l.hole-index l.holes)) l.draft
