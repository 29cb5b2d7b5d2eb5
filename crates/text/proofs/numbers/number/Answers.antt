use Rattle.std.proofs.Common.{◌≡◌, length, get_or, arith}
use Rattle.text.proofs.Figures.{figures, told}
use Rattle.text.proofs.numbers.number.Goals as goal
use Rattle.text.proofs.numbers.number.Goals.{in_default-via-then-text-lt2, in_default-via-else-text-lt2+in_default-1}

pub returns-in-empty : goal.returns-in-empty
returns-in-empty c = λ n w. let f = figures n _ w in omega (arith, f.some)

pub returns-in-empty-2 : goal.returns-in-empty-2
returns-in-empty-2 c = λ n w. let f = figures n _ w in omega (arith, f.lead)

pub returns-in_default : goal.returns-in_default
returns-in_default c = λ n w. let f = figures n _ w in omega (arith, f.few)

pub returns-in_default-2 : goal.returns-in_default-2
returns-in_default-2 c =
    let lead : get_or c.args.text.now 0 0 ≡ 48 → length c.args.text.now ≡ 1
    = λ e. elim c.in_default.branch [ in_default-via-then-text-lt2 w ↦ grind arith | in_default-via-else-text-lt2+in_default-1 w ↦ grind arith ] in
    told _ _ c.value.ensures (grind arith) c.if-text-gt9.false lead
