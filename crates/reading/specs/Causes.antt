-- The number of each cause, and its layer: the text where only reading gives the number, else the sheet.
use Rattle.std.specs.Prelude.{ℕ}
use Rattle.parts.specs.Refusals.{refusal_number}
use Rattle.reading.specs.declared.fault.Cause.{Cause}
use Rattle.reading.specs.declared.fault.Cause.TheVariants.{TooLong, Malformed, WrongSection, LetterAgain, Sheet}
use Rattle.reading.specs.declared.fault.Layer.{Layer}
use Rattle.reading.specs.declared.fault.Layer.TheVariants.{Text as OfText, Sheet as OfSheet}

abbrev pub cause_number : Cause → ℕ
cause_number TooLong = 21
cause_number Malformed = 22
cause_number WrongSection = 23
cause_number LetterAgain = 24
cause_number (Sheet f) = refusal_number f

abbrev pub cause_layer : Cause → Layer
cause_layer TooLong = OfText
cause_layer Malformed = OfText
cause_layer WrongSection = OfText
cause_layer LetterAgain = OfText
cause_layer (Sheet f) = OfSheet
