use Rattle.std.proofs.Common.{refl}
use Rattle.text.proofs.Listed.{takes_each}
use Rattle.text.proofs.Means.{signed_none}
use Rattle.reading.proofs.Shaped.{load_pieces}
use Rattle.reading.proofs.fields.load_fields.Goals as goal

pub returns-in_err-letter : goal.returns-in_err-letter
returns-in_err-letter c = rw c.from_residual.ensures (λ f. c.in_err-letter.ensures.0 _ _ refl f.begins)

pub returns-in_err-signed : goal.returns-in_err-signed
returns-in_err-signed c =
    rw c.from_residual-in_err-signed.ensures (λ f. signed_none (takes_each _ c.in_ok-letter.ensures).sound.1.0 c.in_err-signed.ensures f.value (f.short, (load_pieces (takes_each _ c.in_ok-letter.ensures).begins f).1))
