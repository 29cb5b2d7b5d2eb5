use Rattle.std.proofs.Common.{refl}
use Rattle.text.proofs.Listed.{takes_each}
use Rattle.text.proofs.Means.{unsigned_none}
use Rattle.reading.proofs.Shaped.{bolt_pieces}
use Rattle.reading.proofs.fields.bolt_fields.Goals as goal

pub returns-in_err-size : goal.returns-in_err-size
returns-in_err-size c = rw c.from_residual.ensures (λ f. c.in_err-size.ensures.0 _ _ refl f.begins)

pub returns-in_err-unsigned : goal.returns-in_err-unsigned
returns-in_err-unsigned c =
    rw c.from_residual-in_err-unsigned.ensures (λ f. unsigned_none (takes_each _ c.in_ok-size.ensures).sound.1.0 c.in_err-unsigned.ensures f.stress (f.short.0, (bolt_pieces (takes_each _ c.in_ok-size.ensures).begins f).1))

pub returns-in_err-unsigned-2 : goal.returns-in_err-unsigned-2
returns-in_err-unsigned-2 c =
    rw c.from_residual-in_err-unsigned-2.ensures (λ f. unsigned_none (takes_each _ c.in_ok-size.ensures).sound.1.1.0 c.in_err-unsigned-2.ensures f.planes (f.short.1, (bolt_pieces (takes_each _ c.in_ok-size.ensures).begins f).2))
