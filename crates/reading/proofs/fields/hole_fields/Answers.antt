use Rattle.std.proofs.Common.{refl}
use Rattle.text.proofs.Listed.{takes_each}
use Rattle.text.proofs.Means.{unsigned_none}
use Rattle.reading.proofs.Shaped.{hole_pieces}
use Rattle.reading.proofs.fields.hole_fields.Goals as goal

pub returns-in_err-x : goal.returns-in_err-x
returns-in_err-x c = rw c.from_residual.ensures (λ f. c.in_err-x.ensures.0 _ _ refl f.begins)

pub returns-in_err-unsigned : goal.returns-in_err-unsigned
returns-in_err-unsigned c =
    rw c.from_residual-in_err-unsigned.ensures (λ f. unsigned_none (takes_each _ c.in_ok-x.ensures).sound.0 c.in_err-unsigned.ensures f.x (f.short.0, (hole_pieces (takes_each _ c.in_ok-x.ensures).begins f).0))

pub returns-in_err-unsigned-2 : goal.returns-in_err-unsigned-2
returns-in_err-unsigned-2 c =
    rw c.from_residual-in_err-unsigned-2.ensures (λ f. unsigned_none (takes_each _ c.in_ok-x.ensures).sound.1.0 c.in_err-unsigned-2.ensures f.y (f.short.1, (hole_pieces (takes_each _ c.in_ok-x.ensures).begins f).1))

pub returns-in_err-unsigned-3 : goal.returns-in_err-unsigned-3
returns-in_err-unsigned-3 c =
    rw c.from_residual-in_err-unsigned-3.ensures (λ f. unsigned_none (takes_each _ c.in_ok-x.ensures).sound.1.1.0 c.in_err-unsigned-3.ensures f.diameter (f.short.2, (hole_pieces (takes_each _ c.in_ok-x.ensures).begins f).2))
