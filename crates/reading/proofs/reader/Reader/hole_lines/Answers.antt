use Rattle.std.proofs.Common.{rules, arith}
use Rattle.reading.proofs.Forward.{◌then◌, broke, answered, lined, told_on}
use Rattle.reading.proofs.HoleTold.{all_drilled}
use Rattle.reading.proofs.reader.Reader.hole_lines.Goals as goal

pub returns-in_err-map_err : goal.returns-in_err-map_err
returns-in_err-map_err c =
    let line = c.hole_line.ensures c.args.count c.loop-i._i c.loop-i-test.true in
    broke (answered (c.loop-i.invariant then lined _ line (search (rules, told_on))) c.in_err-map_err.was) c.from_residual.ensures.1

pub loop-i-init : goal.loop-i-init
loop-i-init c = record { goes = λ text d at. (d, at) }

pub loop-i-preserved : goal.loop-i-preserved
loop-i-preserved c =
    let line = c.hole_line.ensures c.args.count c.loop-i._i c.loop-i-test.true in
    answered (c.loop-i.invariant then lined _ line (search (rules, told_on))) c.in_ok-map_err.was

pub returns : goal.returns
returns c = record {
  goes = λ text d at.
      let y = c.loop-i.invariant.goes text d at in
      ((y.0.bar, y.0.bolt, y.0.holes), all_drilled c.args.count c.loop-i._i y.0 (omega arith) y.1);
}
