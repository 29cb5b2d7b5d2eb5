use Rattle.std.proofs.Common.{sym, ap, arith}
use Rattle.std.specs.List.{flat_map}
use Rattle.std.proofs.lemmas.List.{take_all}
use Rattle.text.proofs.Chained.{◌then◌, same, none_added}
use Rattle.text.proofs.Grown.{joined_take}
use Rattle.sections.specs.Texts.{hole_line}
use Rattle.sections.proofs.writes.write_holes.Goals as goal

pub loop-hole-init : goal.loop-hole-init
loop-hole-init c = none_added _

pub loop-hole-preserved : goal.loop-hole-preserved
loop-hole-preserved c =
    same (sym (joined_take hole_line c.args.holes.now c.loop-hole.hole-index _ c.loop-hole-test.true)) (c.loop-hole.invariant then c.write_hole.ensures)

pub returns : goal.returns
returns c = c.header.ensures then same (ap (flat_map hole_line) (take_all c.loop-hole.hole-index c.args.holes.now (omega arith))) c.loop-hole.invariant
