-- What the reader takes from a line of each kind. Only inner functions cite it.
use Rattle.std.specs.Prelude.{◌≡◌, ℕ, ◌+◌, ◌≤◌, List, [], ◌∷◌, ℤ, Ok, Err, decimal, Result}
use Rattle.std.specs.Borrow.{Bor}
use Rattle.std.specs.Fmt.{signed_decimal}
use Rattle.text.specs.Figures.{Nine}
use Rattle.text.specs.Words.{Begins}
use Rattle.text.specs.declared.cursor.Cursor.{Cursor}
use Rattle.parts.specs.declared.hole.Hole.{Hole}
use Rattle.reading.specs.Shapes.{Short}
use Rattle.reading.specs.LineFaults.{HeaderFault}
use Rattle.reading.specs.declared.fields.BarLine.{BarLine}
use Rattle.reading.specs.declared.fields.BoltLine.{BoltLine}
use Rattle.reading.specs.declared.fault.ReadFault.{ReadFault}

-- the cursor passes a line of these pieces
pub record Passed (was : Cursor) (ws : List (List ℕ)) (now : Cursor) : Type 0 where
  pub begins : Begins was.rest.now ws now.rest.now
  pub count : now.line ≡ was.line + 1

abbrev pub HeaderFields : Cursor → ℕ × Bor (List ℕ) → Cursor → Type 0
HeaderFields was f now = Passed was (decimal f.0 ∷ f.1.now ∷ []) now × Short f.0

abbrev pub BarFields : Cursor → BarLine → Cursor → Type 0
BarFields was f now = Passed was (decimal f.width ∷ decimal f.thickness ∷ f.steel.now ∷ decimal f.edge ∷ []) now × Short f.width × Short f.thickness × Short f.edge

abbrev pub BoltFields : Cursor → BoltLine → Cursor → Type 0
BoltFields was f now = Passed was (f.size.now ∷ decimal f.stress ∷ decimal f.planes ∷ []) now × Short f.stress × Short f.planes

abbrev pub HoleFields : Cursor → Hole → Cursor → Type 0
HoleFields was h now = Passed was (decimal h.x ∷ decimal h.y ∷ decimal h.diameter ∷ []) now × Short h.x × Short h.y × Short h.diameter

abbrev pub LoadFields : Cursor → Bor (List ℕ) × ℤ → Cursor → Type 0
LoadFields was f now = Passed was (f.0.now ∷ signed_decimal f.1 ∷ []) now × Nine f.1

-- a section's first line with this name and a count from least to most, or its fault
abbrev pub HeaderRead : Cursor → List ℕ → ℕ → ℕ → Result ℕ ReadFault → Cursor → Type 0
HeaderRead was name least most (Ok n) now = Passed was (decimal n ∷ name ∷ []) now × (least ≤ n) × (n ≤ most)
HeaderRead was name least most (Err e) now = (e.line ≡ was.line + 1) × HeaderFault name least most was.rest.now e.cause
