use Rattle.reading.proofs.Forward.{◌then◌, broke}
use Rattle.reading.proofs.reader.Reader.sections.Goals as goal

pub returns-in_err-bar_section : goal.returns-in_err-bar_section
returns-in_err-bar_section c = broke c.in_err-bar_section.ensures c.from_residual.ensures.1

pub returns-in_err-bolt_section : goal.returns-in_err-bolt_section
returns-in_err-bolt_section c = broke (c.in_ok-bar_section.ensures then c.in_err-bolt_section.ensures) c.from_residual-in_err-bolt_section.ensures.1

pub returns-in_err-holes_section : goal.returns-in_err-holes_section
returns-in_err-holes_section c = broke (c.in_ok-bar_section.ensures then c.in_ok-bolt_section.ensures then c.in_err-holes_section.ensures) c.from_residual-in_err-holes_section.ensures.1

pub returns : goal.returns
returns c = c.in_ok-bar_section.ensures then c.in_ok-bolt_section.ensures then c.in_ok-holes_section.ensures then c.loads_section.ensures
