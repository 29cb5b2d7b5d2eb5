-- The number of each refusal of a page, and how it is told.
use Rattle.std.specs.Prelude.{ℕ, List, ◌++◌, codes, decimal}
use Rattle.parts.specs.Refusals.{refusal_number, refusal_text}
use Rattle.writing.specs.declared.fault.PageFault.{PageFault}
use Rattle.writing.specs.declared.fault.PageFault.TheVariants.{Sheet, NoRoom}

abbrev pub page_number : PageFault → ℕ
page_number (Sheet f) = refusal_number f
page_number NoRoom = 20

abbrev pub page_refusal_text : PageFault → List ℕ
page_refusal_text (Sheet f) = refusal_text f
page_refusal_text NoRoom = codes "refused " ++ decimal (page_number NoRoom)
