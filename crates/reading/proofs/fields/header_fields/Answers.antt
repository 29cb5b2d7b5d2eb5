use Rattle.std.proofs.Common.{refl}
use Rattle.text.proofs.Listed.{takes_each}
use Rattle.text.proofs.Means.{unsigned_none}
use Rattle.reading.proofs.Shaped.{header_pieces}
use Rattle.reading.proofs.fields.header_fields.Goals as goal

pub returns-in_err-count : goal.returns-in_err-count
returns-in_err-count c = rw c.from_residual.ensures (λ f. c.in_err-count.ensures.0 _ _ refl f.begins)

pub returns-in_err-unsigned : goal.returns-in_err-unsigned
returns-in_err-unsigned c =
    rw c.from_residual-in_err-unsigned.ensures
    (λ f. unsigned_none (takes_each _ c.in_ok-count.ensures).sound.0 c.in_err-unsigned.ensures f.count (f.short, (header_pieces (takes_each _ c.in_ok-count.ensures).begins f).0))
