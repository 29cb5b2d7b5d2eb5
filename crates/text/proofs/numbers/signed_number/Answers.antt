use Rattle.std.proofs.Common.{decimal, ap, ◌∙◌, rules}
use Rattle.text.proofs.Minus.{tail, no_minus, not_zero}
use Rattle.text.proofs.numbers.signed_number.Goals as goal

pub returns-in_err-n : goal.returns-in_err-n
returns-in_err-n c =
    rw c.from_residual.ensures (no_minus _ _ (tail c.args.text.now 45 (search rules) (search rules)) (λ n p w. c.in_err-n.ensures n w))

pub returns-then-n-eq0 : goal.returns-then-n-eq0
returns-then-n-eq0 c =
    no_minus _ _ (tail c.args.text.now 45 (search rules) (search rules)) (not_zero _ (c.in_ok-n.ensures.1 ∙ ap decimal c.if-n-eq0.true))
