use Rattle.reading.specs.Stages.{with_bolt}
use Rattle.reading.proofs.Forward.{◌then◌, broke}
use Rattle.reading.proofs.Headed.{holes_headed, misheaded}
use Rattle.reading.proofs.reader.Reader.holes_section.Goals as goal

pub returns-in_err-count : goal.returns-in_err-count
returns-in_err-count c = broke (misheaded with_bolt (rw (c.new.ensures.start, c.new.ensures.end) at c.in_err-count.ensures) (λ p f. f)) c.from_residual.ensures.1

pub returns : goal.returns
returns c = holes_headed c.args.self.now _ (rw (c.new.ensures.start, c.new.ensures.end) at c.in_ok-count.ensures) then c.hole_lines.ensures
