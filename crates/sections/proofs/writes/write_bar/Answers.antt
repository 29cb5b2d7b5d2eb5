use Rattle.text.proofs.Chained.{◌then◌}
use Rattle.sections.proofs.writes.write_bar.Goals as goal

pub returns : goal.returns
returns c =
    c.header.ensures then rw (c.into.ensures, c.into-2.ensures, c.name.ensures.name, c.into-3.ensures) at c.write_line.ensures
