use Rattle.std.proofs.Common.{refl}
use Rattle.text.proofs.Lines.{no_line, no_end}
use Rattle.text.proofs.cursor.Cursor.line_of.Goals as goal

pub returns-in_err-line : goal.returns-in_err-line
returns-in_err-line g c = rw c.from_residual.ensures (no_end c.in_err-line.ensures, refl)

pub returns-in_err-pieces : goal.returns-in_err-pieces
returns-in_err-pieces g c = rw c.from_residual-in_err-pieces.ensures (no_line c.in_ok-line.ensures.cut c.in_err-pieces.ensures, refl)
