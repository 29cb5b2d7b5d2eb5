-- The number, the layer and the line of each refusal of check.
use Rattle.std.specs.Prelude.{ℕ}
use Rattle.parts.specs.Refusals.{refusal_number}
use Rattle.reading.specs.Causes.{cause_number, cause_layer}
use Rattle.reading.specs.declared.fault.Layer.{Layer}
use Rattle.reading.specs.declared.fault.Layer.TheVariants.{Text as TextLayer, Sheet as SheetLayer}
use Rattle.archive.specs.declared.fault.CheckFault.{CheckFault}
use Rattle.archive.specs.declared.fault.CheckFault.TheVariants.{Read, Trailing, Sheet}

abbrev pub check_number : CheckFault → ℕ
check_number (Read e) = cause_number e.cause
check_number (Trailing l) = 25
check_number (Sheet f) = refusal_number f

-- its layer: the text where only reading gives the number, else the sheet
abbrev pub check_layer : CheckFault → Layer
check_layer (Read e) = cause_layer e.cause
check_layer (Trailing l) = TextLayer
check_layer (Sheet f) = SheetLayer

abbrev pub check_line : CheckFault → ℕ
check_line (Read e) = e.line
check_line (Trailing l) = l
check_line (Sheet f) = 0
