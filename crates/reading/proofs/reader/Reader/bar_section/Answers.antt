use Rattle.std.proofs.Common.{rules}
use Rattle.reading.specs.Stages.{at_start}
use Rattle.reading.proofs.Forward.{◌then◌, broke, lined, told_on}
use Rattle.reading.proofs.Headed.{bar_headed, misheaded}
use Rattle.reading.proofs.reader.Reader.bar_section.Goals as goal

pub returns-in_err-header : goal.returns-in_err-header
returns-in_err-header c = broke (misheaded at_start (rw (c.new.ensures.start, c.new.ensures.end) at c.in_err-header.ensures) (λ u f. f)) c.from_residual.ensures.1

pub returns : goal.returns
returns c = bar_headed c.args.self.now _ (rw (c.new.ensures.start, c.new.ensures.end) at c.in_ok-header.ensures) then lined _ c.bar_line.ensures (search (rules, told_on))
