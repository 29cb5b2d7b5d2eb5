use Rattle.std.proofs.Common.{◌*ℤ◌, arith, w32, w64, SFits}
use Rattle.std.proofs.lemmas.Int.{ints, to_z-of_z}
use Rattle.judging.proofs.Factors.{part_bounds, part_fits}
use Rattle.judging.proofs.rows.part.Goals as goal

pub overflow_mul-result : goal.overflow_mul-result
overflow_mul-result c =
    let small = c.requires in
    let short : SFits w32 c.args.load = c.ranges.load in
    let long : SFits w64 c.args.load = omega (arith, ints) in
    let wide : SFits w64 c.args.factor = omega (arith, ints) in
    simp to_z-of_z (part_fits c.args.factor c.args.load small short)

pub returns : goal.returns
returns c =
    let small = c.requires in
    let short : SFits w32 c.args.load = c.ranges.load in
    let long : SFits w64 c.args.load = omega (arith, ints) in
    let wide : SFits w64 c.args.factor = omega (arith, ints) in
    let whole : SFits w64 (c.args.factor *ℤ c.args.load) = part_fits c.args.factor c.args.load small short in
    let h = part_bounds c.args.factor c.args.load small short in
    record { value = simp to_z-of_z; low_bound = simp to_z-of_z h.0; high_bound = simp to_z-of_z h.1 }
