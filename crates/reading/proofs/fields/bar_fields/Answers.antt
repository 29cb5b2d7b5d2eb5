use Rattle.std.proofs.Common.{refl}
use Rattle.text.proofs.Listed.{takes_each}
use Rattle.text.proofs.Means.{unsigned_none}
use Rattle.reading.proofs.Shaped.{bar_pieces}
use Rattle.reading.proofs.fields.bar_fields.Goals as goal

pub returns-in_err-width : goal.returns-in_err-width
returns-in_err-width c = rw c.from_residual.ensures (λ f. c.in_err-width.ensures.0 _ _ refl f.begins)

pub returns-in_err-unsigned : goal.returns-in_err-unsigned
returns-in_err-unsigned c =
    rw c.from_residual-in_err-unsigned.ensures (λ f. unsigned_none (takes_each _ c.in_ok-width.ensures).sound.0 c.in_err-unsigned.ensures f.width (f.short.0, (bar_pieces (takes_each _ c.in_ok-width.ensures).begins f).0))

pub returns-in_err-unsigned-2 : goal.returns-in_err-unsigned-2
returns-in_err-unsigned-2 c =
    rw c.from_residual-in_err-unsigned-2.ensures (λ f. unsigned_none (takes_each _ c.in_ok-width.ensures).sound.1.0 c.in_err-unsigned-2.ensures f.thickness (f.short.1, (bar_pieces (takes_each _ c.in_ok-width.ensures).begins f).1))

pub returns-in_err-unsigned-3 : goal.returns-in_err-unsigned-3
returns-in_err-unsigned-3 c =
    rw c.from_residual-in_err-unsigned-3.ensures (λ f. unsigned_none (takes_each _ c.in_ok-width.ensures).sound.1.1.1.0 c.in_err-unsigned-3.ensures f.edge (f.short.2, (bar_pieces (takes_each _ c.in_ok-width.ensures).begins f).3))
