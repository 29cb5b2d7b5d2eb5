-- Where the reading stands, and what each part of it answers. Only inner functions cite it.
use Rattle.std.specs.Prelude.{◌≡◌, ℕ, ◌+◌, ◌≤◌, Bool, true, false, List, [], ◌++◌, length, Ok, Err, Result, slice_index_or}
use Rattle.parts.specs.declared.bar.Bar.{Bar}
use Rattle.parts.specs.declared.bolt.Bolt.{Bolt}
use Rattle.parts.specs.declared.hole.Hole.{Hole}
use Rattle.parts.specs.declared.load.LoadKind.{LoadKind}
use Rattle.parts.specs.LoadKinds.{kind_number}
use Rattle.sections.specs.Texts.{Load}
use Rattle.sheet.specs.Kept.{open_account}
use Rattle.reading.specs.Beginnings.{Beginning, nothing, bar_named, barred, bolt_named, bolted, holing, loading, lines, written, account_of, Fresh, Lawful}
use Rattle.reading.specs.Reads.{FaultyLine}
use Rattle.reading.specs.declared.fault.Cause.{Cause}
use Rattle.reading.specs.declared.fault.ReadFault.{ReadFault}
use Rattle.reading.specs.declared.reader.Reader.{Reader}

-- the reader stands after this beginning of the text, whose lines are all good, and its sheet holds what they say
pub record At (text : List ℕ) (b : Beginning) (r : Reader) : Type 0 where
  pub short : length text ≤ 4096
  pub lawful : Lawful b
  pub is : text ≡ written b ++ r.cursor.rest.now
  pub line : r.cursor.line ≡ length (lines b)
  pub account : open_account r.sheet ≡ account_of b

-- some beginning of the stage is reached, or a line before that is the first faulty one
abbrev pub Goes : {Y : Type 0} → List ℕ → (Y → Beginning) → Result (Unit {0}) ReadFault → Reader → Type 0
Goes {Y} text to (Ok u) now = (y : Y) × At text (to y) now
Goes text to (Err e) now = FaultyLine text e

-- from any beginning of one stage to some beginning of another
pub record Leads {X Y : Type 0} (from : X → Beginning) (to : Y → Beginning) (was : Reader) (r : Result (Unit {0}) ReadFault) (now : Reader) : Type 0 where
  pub goes : (text : List ℕ) (x : X) → At text (from x) was → Goes text to r now

-- what reading a line answers, told with the line's number
abbrev pub on_line : ℕ → Result (Unit {0}) Cause → Result (Unit {0}) ReadFault
on_line n (Ok u) = Ok u
on_line n (Err c) = Err (record { cause = c; line = n })

-- the same by the one line that is due, which answers only what is wrong with it
abbrev pub LineLeads : {X Y : Type 0} → (X → Beginning) → (Y → Beginning) → Reader → Result (Unit {0}) Cause → Reader → Type 0
LineLeads from to was r now = Leads from to was (on_line (was.cursor.line + 1) r) now

-- ---- the stages

abbrev pub at_start : Unit {0} → Beginning
at_start u = nothing

abbrev pub at_bar : Unit {0} → Beginning
at_bar u = bar_named

abbrev pub with_bar : Bar → Beginning
with_bar b = barred b

abbrev pub at_bolt : Bar → Beginning
at_bolt b = bolt_named b

abbrev pub with_bolt : Bar × Bolt → Beginning
with_bolt p = bolted p.0 p.1

-- i holes have come
pub record Drilled (i : ℕ) : Type 0 where
  pub bar : Bar
  pub bolt : Bolt
  pub holes : List Hole
  pub many : length holes ≡ i

-- of n
abbrev pub with_holes : (n i : ℕ) → Drilled i → Beginning
with_holes n i d = holing d.bar d.bolt n d.holes

-- all holes that were announced have come
abbrev pub drilled : Bar × Bolt × List Hole → Beginning
drilled p = holing p.0 p.1 (length p.2) p.2

-- the letters that stood before are marked
pub record Marks (seen : List Bool) (ps : List Load) : Type 0 where
  pub seven : length seen ≡ 7
  pub stood : (k : LoadKind) → slice_index_or seen (kind_number k) false ≡ true → Fresh k ps → ⊥
  pub fresh : (k : LoadKind) → slice_index_or seen (kind_number k) false ≡ false → Fresh k ps

-- i loads have come
pub record Loaded (i : ℕ) (seen : List Bool) : Type 0 where
  pub bar : Bar
  pub bolt : Bolt
  pub holes : List Hole
  pub loads : List Load
  pub many : length loads ≡ i
  pub marks : Marks seen loads

abbrev pub with_loads : (i : ℕ) (seen : List Bool) → Loaded i seen → Beginning
with_loads i seen p = loading p.bar p.bolt p.holes p.loads

abbrev pub at_loads : Bar × Bolt × List Hole → Beginning
at_loads p = loading p.0 p.1 p.2 []

-- all four sections have come
pub record Whole : Type 0 where
  pub bar : Bar
  pub bolt : Bolt
  pub holes : List Hole
  pub loads : List Load
  pub seven : length loads ≡ 7

abbrev pub whole : Whole → Beginning
whole p = loading p.bar p.bolt p.holes p.loads
