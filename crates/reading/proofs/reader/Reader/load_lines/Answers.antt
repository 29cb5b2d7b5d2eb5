use Rattle.std.proofs.Common.{refl, rules, arith}
use Rattle.reading.proofs.Forward.{◌then◌, broke, answered, lined, told_on}
use Rattle.reading.proofs.Letters.{marks_none}
use Rattle.reading.proofs.reader.Reader.load_lines.Goals as goal

pub returns-in_err-map_err : goal.returns-in_err-map_err
returns-in_err-map_err c =
    let line = c.load_line.ensures c.loop-i._i (omega arith) in
    broke (answered (c.loop-i.invariant then lined _ line (search (rules, told_on))) c.in_err-map_err.was) c.from_residual.ensures.1

pub loop-i-init : goal.loop-i-init
loop-i-init c = record {
  goes = λ text p at. (record { bar = p.0; bolt = p.1; holes = p.2; loads = _; many = refl; marks = marks_none }, at);
}

pub loop-i-preserved : goal.loop-i-preserved
loop-i-preserved c =
    let line = c.load_line.ensures c.loop-i._i (omega arith) in
    answered (c.loop-i.invariant then lined _ line (search (rules, told_on))) c.in_ok-map_err.was

pub returns : goal.returns
returns c = record {
  goes = λ text p at.
      let y = c.loop-i.invariant.goes text p at in
      (record { bar = y.0.bar; bolt = y.0.bolt; holes = y.0.holes; loads = y.0.loads; seven = omega (arith, y.0.many) }, y.1);
}
