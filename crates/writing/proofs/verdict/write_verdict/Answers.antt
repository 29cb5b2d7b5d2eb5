use Rattle.std.proofs.Common.{w64, rules}
use Rattle.std.proofs.lemmas.Int.{to_z-of_z}
use Rattle.text.proofs.Chained.{◌then◌}
use Rattle.writing.proofs.verdict.write_verdict.Goals as goal

pub returns : goal.returns
returns c =
    let judged = c.args.judgment.now in
    c.header.ensures then
    rw (
      c.into.ensures,
      c.number.ensures,
      c.into-2.ensures,
      c.into-3.ensures,
      to_z-of_z w64 judged.greatest.0 (search rules),
      to_z-of_z w64 judged.strength.0 (search rules),
      to_z-of_z w64 judged.net_width.0 (search rules),
      to_z-of_z w64 judged.least.0 (search rules),
    ) at c.write_line.ensures
