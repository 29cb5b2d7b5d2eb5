use Rattle.std.proofs.Common.{arith}
use Rattle.text.proofs.Chained.{whole_text}
use Rattle.archive.proofs.Laying.{refused_room}
use Rattle.archive.proofs.check.refusal_line.Goals as goal

pub returns : goal.returns
returns c =
    whole_text c.new-draft.ensures (refused_room c.args.fault c.number_of.ensures.small (omega (arith, c.line.ensures)))
    (rw (c.number_of.ensures.says, c.line.ensures) at c.write_line.ensures)
