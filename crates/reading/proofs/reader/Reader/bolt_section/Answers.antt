use Rattle.std.proofs.Common.{rules}
use Rattle.reading.specs.Stages.{with_bar}
use Rattle.reading.proofs.Forward.{◌then◌, broke, lined, told_on}
use Rattle.reading.proofs.Headed.{bolt_headed, misheaded}
use Rattle.reading.proofs.reader.Reader.bolt_section.Goals as goal

pub returns-in_err-header : goal.returns-in_err-header
returns-in_err-header c = broke (misheaded with_bar (rw (c.new.ensures.start, c.new.ensures.end) at c.in_err-header.ensures) (λ b f. f)) c.from_residual.ensures.1

pub returns : goal.returns
returns c = bolt_headed c.args.self.now _ (rw (c.new.ensures.start, c.new.ensures.end) at c.in_ok-header.ensures) then lined _ c.bolt_line.ensures (search (rules, told_on))
