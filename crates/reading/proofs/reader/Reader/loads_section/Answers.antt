use Rattle.std.proofs.Common.{refl, inr}
use Rattle.reading.specs.Stages.{drilled}
use Rattle.reading.proofs.Forward.{◌then◌, broke}
use Rattle.reading.proofs.Headed.{loads_headed, misheaded}
use Rattle.reading.proofs.reader.Reader.loads_section.Goals as goal

pub returns-in_err-header : goal.returns-in_err-header
returns-in_err-header c = broke (misheaded drilled (rw (c.new.ensures.start, c.new.ensures.end) at c.in_err-header.ensures) (λ p f. inr (refl, f))) c.from_residual.ensures.1

pub returns : goal.returns
returns c = loads_headed c.args.self.now _ (rw (c.new.ensures.start, c.new.ensures.end) at c.in_ok-header.ensures) then c.load_lines.ensures
