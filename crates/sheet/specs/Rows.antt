-- The holes of a row.
use Rattle.std.specs.Prelude.{List, take}
use Rattle.parts.specs.declared.hole.Hole.{Hole}
use Rattle.sheet.specs.declared.row.Row.{Row}

-- those that its count takes in
abbrev pub holes_of : Row → List Hole
holes_of r = take r.count r.holes
