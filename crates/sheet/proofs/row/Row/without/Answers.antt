use Rattle.std.proofs.Common.{refl, arith}
use Rattle.std.proofs.lemmas.List.{length-take-le}
use Rattle.sheet.proofs.Shift.{row_less}
use Rattle.sheet.proofs.row.Row.without.Goals as goal

pub returns : goal.returns
returns c =
    let r = c.args.self in
    row_less r.holes r.count c.args.place (omega (arith, r.long, r.few)) (omega (arith, length-take-le r.count r.holes (omega (arith, r.long, r.few)), c.requires)) _ _ refl c.rotate_left.ensures.after
