use Rattle.std.proofs.Common.{◌+◌, ◌*◌, ◌<◌, get_or, ap, ◌∙◌, arith}
use Rattle.std.proofs.lemmas.Str.{digit_value_digit}
use Rattle.std.proofs.lemmas.Str.Parse.{digit_at}
use Rattle.std.specs.Char.{digit_value}
use Rattle.text.proofs.Figures.{room, figure_more}
use Rattle.text.proofs.numbers.value.Goals as goal

pub overflow_mul-n : goal.overflow_mul-n
overflow_mul-n c = omega (arith, room c.args.digits.now c.loop-digit.digit-index c.loop-digit.invariant.0 c.loop-digit-test.true c.requires)

pub returns-in_err-n : goal.returns-in_err-n
returns-in_err-n c =
    rw c.from_residual.ensures
    (λ all.
    let d = digit_at c.args.digits.now c.loop-digit.digit-index all c.loop-digit-test.true in
    let small : digit_value (get_or c.args.digits.now c.loop-digit.digit-index 0) < 10 = omega (arith, digit_value_digit _ d) in
    c.in_err-n.ensures.value (rw c.from.ensures small))

pub overflow_add-n : goal.overflow_add-n
overflow_add-n c =
    omega (arith, room c.args.digits.now c.loop-digit.digit-index c.loop-digit.invariant.0 c.loop-digit-test.true c.requires, c.in_ok-n.ensures.value)

pub loop-digit-preserved : goal.loop-digit-preserved
loop-digit-preserved c =
    let v = rw c.from.ensures at c.in_ok-n.ensures.value in
    let m = figure_more c.args.digits.now c.loop-digit.digit-index _ c.loop-digit.invariant.0 c.loop-digit-test.true v.0 v.1 in
    (m.0, ap (λ n. n * 10 + c.in_ok-n.field-0) c.loop-digit.invariant.1 ∙ m.1)
