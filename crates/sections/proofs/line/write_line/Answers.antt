use Rattle.std.proofs.Common.{ap, sym, arith}
use Rattle.std.specs.List.{flat_map}
use Rattle.std.proofs.lemmas.List.{take_all}
use Rattle.text.proofs.Chained.{◌then◌, same, none_added}
use Rattle.text.proofs.Grown.{joined_take}
use Rattle.sections.proofs.Spaced.{after_space, ended, ended_bare}
use Rattle.sections.proofs.line.write_line.Goals as goal
use Rattle.sections.proofs.line.write_line.Goals.{in-Some+else-loop-piece-test, in_default}

pub loop-piece-init : goal.loop-piece-init
loop-piece-init c = none_added _

pub loop-piece-preserved : goal.loop-piece-preserved
loop-piece-preserved c =
    same (sym (joined_take after_space c.in-Some.others.now c.loop-piece.piece-index _ c.loop-piece-test.true)) (c.loop-piece.invariant then c.byte.ensures then c.write_piece-in-loop-piece.ensures)

pub returns : goal.returns
returns c = elim c.match-split_first.branch [
  | in-Some+else-loop-piece-test w ↦
      let others = same (ap (flat_map after_space) (take_all w.loop-piece.piece-index w.in-Some.others.now (omega arith))) w.loop-piece.invariant in
      same (ended w.in-Some.first.now w.in-Some.others.now c.args.pieces.now w.in-Some.ensures.cases.0) (w.write_piece.ensures then others then rw w.draft-is at c.byte-2.ensures)
  | in_default w ↦ same (ended_bare c.args.pieces.now w.in_default.ensures.cases) (rw w.draft-is at c.byte-2.ensures)
]
