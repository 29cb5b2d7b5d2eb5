-- What reading a text answers: accepted with what it says, or refused at its first faulty line.
use Rattle.std.specs.Prelude.{◌≡◌, ℕ, ◌+◌, ◌<◌, ◌≤◌, ◌⊎◌, List, ◌++◌, length, Ok, Err, Result}
use Rattle.parts.specs.declared.bar.Bar.{Bar}
use Rattle.parts.specs.declared.bolt.Bolt.{Bolt}
use Rattle.parts.specs.declared.hole.Hole.{Hole}
use Rattle.sections.specs.Texts.{Load}
use Rattle.sheet.specs.Account.{Account}
use Rattle.reading.specs.Beginnings.{Beginning, loading, lines, written, Lawful, account_of}
use Rattle.reading.specs.LineFaults.{LineFault}
use Rattle.reading.specs.declared.fault.Cause.TheVariants.{TooLong}
use Rattle.reading.specs.declared.fault.ReadFault.{ReadFault}

-- the text begins with all four sections of a lawful sheet, n bytes, and a is its account
pub record Accepted (text : List ℕ) (n : ℕ) (a : Account) : Type 0 where
  pub short : length text ≤ 4096
  pub bar : Bar
  pub bolt : Bolt
  -- as they stand on the page, the last line's first
  pub holes : List Hole
  pub loads : List Load
  pub rest : List ℕ
  pub seven : length loads ≡ 7
  pub lawful : Lawful (loading bar bolt holes loads)
  pub is : text ≡ written (loading bar bolt holes loads) ++ rest
  pub took : n ≡ length (written (loading bar bolt holes loads))
  pub account : a ≡ account_of (loading bar bolt holes loads)

-- every line before this one is good, and this one is not
pub record FaultyLine (text : List ℕ) (e : ReadFault) : Type 0 where
  pub short : length text ≤ 4096
  pub before : Beginning
  pub rest : List ℕ
  pub lawful : Lawful before
  pub is : text ≡ written before ++ rest
  pub line : e.line ≡ length (lines before) + 1
  pub cause : LineFault before rest e.cause

abbrev pub Refused : List ℕ → ReadFault → Type 0
Refused text e = ((4096 < length text) × (e.cause ≡ TooLong) × (e.line ≡ 0)) ⊎ FaultyLine text e

-- what a call of read answers, and what it makes of the sheet's account
abbrev pub Reads : List ℕ → Account → Result ℕ ReadFault → Account → Type 0
Reads text old (Ok n) new = Accepted text n new
Reads text old (Err e) new = Refused text e × (new ≡ old)

-- each text has one answer, and leaves one account
abbrev pub OneAnswer : Type 0
OneAnswer =
    (text : List ℕ) (old : Account) (r s : Result ℕ ReadFault) (a b : Account)
    → Reads text old r a → Reads text old s b → (r ≡ s) × (a ≡ b)
