use Rattle.text.proofs.Chained.{◌then◌}
use Rattle.sections.proofs.writes.write_bolt.Goals as goal

pub returns : goal.returns
returns c =
    c.header.ensures then rw (c.name.ensures.name, c.into.ensures, c.into-2.ensures) at c.write_line.ensures
