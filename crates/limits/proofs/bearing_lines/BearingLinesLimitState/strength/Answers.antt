use Rattle.std.proofs.Common.{arith}
use Rattle.std.proofs.lemmas.Int.{ints}
use Rattle.sheet.proofs.Joints.{joint_sound}
use Rattle.limits.specs.Bounds.{bearing_most}
use Rattle.limits.proofs.Forces.{area_most, force_most, force_is}
use Rattle.limits.proofs.bearing_lines.BearingLinesLimitState.strength.Goals as goal

pub overflow_mul-area : goal.overflow_mul-area
overflow_mul-area c =
    let w = joint_sound c.args.joint in
    omega (arith, area_most _ w _ _ _ _ c.bar-bar.ensures c.length.ensures.sum (bearing_most _ w))

pub overflow_mul-force : goal.overflow_mul-force
overflow_mul-force c =
    let w = joint_sound c.args.joint in
    omega (arith, force_most _ w _ _ _ _ c.bar-bar.ensures c.length.ensures.sum (bearing_most _ w) _ c.tensile_stress.ensures)

pub overflow_mul-result : goal.overflow_mul-result
overflow_mul-result c =
    let w = joint_sound c.args.joint in
    omega (arith, force_most _ w _ _ _ _ c.bar-bar.ensures c.length.ensures.sum (bearing_most _ w) _ c.tensile_stress.ensures)

pub overflow_cast-result : goal.overflow_cast-result
overflow_cast-result c =
    let w = joint_sound c.args.joint in
    omega (arith, ints, force_most _ w _ _ _ _ c.bar-bar.ensures c.length.ensures.sum (bearing_most _ w) _ c.tensile_stress.ensures)

pub returns : goal.returns
returns c =
    let w = joint_sound c.args.joint in
    let most = force_most _ w _ _ _ _ c.bar-bar.ensures c.length.ensures.sum (bearing_most _ w) _ c.tensile_stress.ensures in
    let is = force_is _ w _ _ _ _ c.bar-bar.ensures c.length.ensures.sum (bearing_most _ w) _ c.tensile_stress.ensures in
    omega (arith, ints)
