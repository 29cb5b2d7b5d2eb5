-- What is wrong with the line that is due: of the conditions that hold of it, the first in the order of the refusals.
use Rattle.std.specs.Prelude.{◌≡◌, ℕ, ◌<◌, ◌≤◌, false, ◌⊎◌, List, [], ◌∷◌, length, Some, codes, ◌≢◌}
use Rattle.parts.specs.declared.bolt.Size.{Size}
use Rattle.parts.specs.declared.fault.Fault.{Fault}
use Rattle.parts.specs.declared.fault.Fault.TheVariants.{OutOfRange, UnknownSteel, UnknownSize, UnknownLoad, LoadOutOfRange}
use Rattle.parts.specs.declared.load.LoadKind.{LoadKind}
use Rattle.parts.specs.declared.steel.Steel.{Steel}
use Rattle.parts.specs.LoadKinds.{letter_of}
use Rattle.parts.specs.Ranges.{bar_ranges, bolt_ranges}
use Rattle.parts.specs.Sizes.{size_name}
use Rattle.parts.specs.Steels.{steel_name}
use Rattle.sections.specs.Texts.{Load}
use Rattle.sheet.specs.Account.{Account}
use Rattle.sheet.specs.Calls.{put_fault, hole_at}
use Rattle.sheet.specs.Law.{bearable}
use Rattle.reading.specs.Beginnings.{Beginning, nothing, bar_named, barred, bolt_named, bolted, holing, loading, account_of, Fresh}
use Rattle.reading.specs.Shapes.{HeaderShape, BarShape, BoltShape, HoleShape, LoadShape}
use Rattle.reading.specs.declared.fault.Cause.{Cause}
use Rattle.reading.specs.declared.fault.Cause.TheVariants.{Malformed, WrongSection, LetterAgain, Sheet}

-- a section's first line, with a count from least to most: 22, then 23
abbrev pub HeaderFault : List ℕ → ℕ → ℕ → List ℕ → Cause → Type 0
HeaderFault name least most text c =
    ((c ≡ Malformed) × (HeaderShape text → ⊥))
    ⊎ ((c ≡ WrongSection) × ((f : HeaderShape text) × (f.name ≡ name → least ≤ f.count → f.count ≤ most → ⊥)))

-- 22, then 2, then 1
abbrev pub BarFault : List ℕ → Cause → Type 0
BarFault text c =
    ((c ≡ Malformed) × (BarShape text → ⊥))
    ⊎ (((c ≡ Sheet UnknownSteel) × ((f : BarShape text) × ((s : Steel) → f.steel ≢ steel_name s)))
    ⊎ ((c ≡ Sheet OutOfRange) × ((f : BarShape text) × (s : Steel) × (f.steel ≡ steel_name s)
    × (bar_ranges (record { width = f.width; thickness = f.thickness; steel = s; edge = f.edge }) ≡ false))))

-- 22, then 2, then 1
abbrev pub BoltFault : List ℕ → Cause → Type 0
BoltFault text c =
    ((c ≡ Malformed) × (BoltShape text → ⊥))
    ⊎ (((c ≡ Sheet UnknownSize) × ((f : BoltShape text) × ((s : Size) → f.size ≢ size_name s)))
    ⊎ ((c ≡ Sheet OutOfRange) × ((f : BoltShape text) × (s : Size) × (f.size ≡ size_name s)
    × (bolt_ranges (record { size = s; stress = record { 0 = f.stress }; planes = f.planes }) ≡ false))))

-- 22, then what put says of the hole on the account so far
abbrev pub HoleFault : Account → List ℕ → Cause → Type 0
HoleFault a text c =
    ((c ≡ Malformed) × (HoleShape text → ⊥))
    ⊎ ((f : HoleShape text) × (e : Fault) × (c ≡ Sheet e) × (put_fault a (hole_at f.x f.y f.diameter) ≡ Some e))

-- the word is this load's letter
abbrev pub Names : List ℕ → LoadKind → Type 0
Names name k = name ≡ letter_of k ∷ []

-- 22, then 10, then 24, then 11
abbrev pub LoadFault : List Load → List ℕ → Cause → Type 0
LoadFault ps text c =
    ((c ≡ Malformed) × (LoadShape text → ⊥))
    ⊎ (((c ≡ Sheet UnknownLoad) × ((f : LoadShape text) × ((k : LoadKind) → Names f.name k → ⊥)))
    ⊎ (((c ≡ LetterAgain) × ((f : LoadShape text) × (k : LoadKind) × Names f.name k × (Fresh k ps → ⊥)))
    ⊎ ((c ≡ Sheet LoadOutOfRange) × ((f : LoadShape text) × (k : LoadKind) × Names f.name k × Fresh k ps × (bearable f.value ≡ false)))))

-- what is due after a beginning, and what is wrong with it
abbrev pub LineFault : Beginning → List ℕ → Cause → Type 0
LineFault nothing text c = HeaderFault (codes "bar") 1 1 text c
LineFault bar_named text c = BarFault text c
LineFault (barred b) text c = HeaderFault (codes "bolt") 1 1 text c
LineFault (bolt_named b) text c = BoltFault text c
LineFault (bolted b t) text c = HeaderFault (codes "holes") 0 32 text c
LineFault (holing b t n hs) text c =
    ((length hs < n) × HoleFault (account_of (holing b t n hs)) text c)
    ⊎ ((length hs ≡ n) × HeaderFault (codes "loads") 7 7 text c)
LineFault (loading b t hs ps) text c = (length ps < 7) × LoadFault ps text c
