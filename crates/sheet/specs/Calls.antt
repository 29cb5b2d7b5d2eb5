-- Each call: when it is refused, and the account that it leaves where it is accepted.
use Rattle.std.specs.Prelude.{ℕ, true, not, ◌&&◌, List, [], ◌∷◌, length, ℤ, is_some, Some, None, Option, Result, nat_le, slice_set}
use Rattle.std.specs.Option.{option_map}
use Rattle.parts.specs.declared.hole.Hole.{Hole}
use Rattle.parts.specs.declared.bar.Bar.{Bar}
use Rattle.parts.specs.declared.bolt.Bolt.{Bolt}
use Rattle.parts.specs.declared.load.LoadKind.{LoadKind}
use Rattle.parts.specs.declared.fault.Fault.{Fault}
use Rattle.parts.specs.declared.fault.Fault.TheVariants.{OutOfRange, UnknownSteel, UnknownSize, HolesStand, NoBarOrBolt, Full, DiameterOutside, CentreOutside, TooClose, NoHoleThere, UnknownLoad, LoadOutOfRange, NoHoles}
use Rattle.parts.specs.Holes.{placed, drilled}
use Rattle.parts.specs.LoadKinds.{kind_of, kind_number}
use Rattle.parts.specs.Ranges.{bar_ranges, bolt_ranges}
use Rattle.parts.specs.Sizes.{diameter_of, size_of}
use Rattle.parts.specs.Steels.{steel_of}
use Rattle.sheet.specs.Account.{Account, Line, first, Settled}
use Rattle.sheet.specs.Law.{none, holds, crowding, add, has_centre, without, bearable}

-- ---- bar

abbrev pub bar_of : ℕ → ℕ → ℕ → ℕ → Option Bar
bar_of width thickness steel edge =
    option_map (λ s. record { width = width; thickness = thickness; steel = s; edge = edge }) (steel_of steel)

abbrev pub bar_fault : Account → ℕ → ℕ → ℕ → ℕ → Option Fault
bar_fault a width thickness steel edge =
    first ((HolesStand, not (none a.holes)) ∷ (UnknownSteel, not (is_some (steel_of steel)))
    ∷ (OutOfRange, not (holds bar_ranges (bar_of width thickness steel edge))) ∷ [])

abbrev pub barred : Account → ℕ → ℕ → ℕ → ℕ → Account
barred a width thickness steel edge =
    record { bar = bar_of width thickness steel edge; bolt = a.bolt; holes = a.holes; loads = a.loads }

abbrev pub Bars : Account → ℕ → ℕ → ℕ → ℕ → Result (Unit {0}) Fault → Account → Type 0
Bars a w t s e r b = Settled (bar_fault a w t s e) a (barred a w t s e) r b

-- ---- bolt

abbrev pub bolt_of : ℕ → ℕ → ℕ → Option Bolt
bolt_of size stress planes =
    option_map (λ s. record { size = s; stress = record { 0 = stress }; planes = planes }) (size_of size)

abbrev pub bolt_fault : Account → ℕ → ℕ → ℕ → Option Fault
bolt_fault a size stress planes =
    first ((HolesStand, not (none a.holes)) ∷ (UnknownSize, not (is_some (size_of size)))
    ∷ (OutOfRange, not (holds bolt_ranges (bolt_of size stress planes))) ∷ [])

abbrev pub bolted : Account → ℕ → ℕ → ℕ → Account
bolted a size stress planes =
    record { bar = a.bar; bolt = bolt_of size stress planes; holes = a.holes; loads = a.loads }

abbrev pub Bolts : Account → ℕ → ℕ → ℕ → Result (Unit {0}) Fault → Account → Type 0
Bolts a s t p r b = Settled (bolt_fault a s t p) a (bolted a s t p) r b

-- ---- put

abbrev pub hole_at : ℕ → ℕ → ℕ → Hole
hole_at x y diameter = record { x = x; y = y; diameter = diameter }

-- the line of the hole that is too close, if one is
abbrev pub crowd_line : Option ℕ → List Line
crowd_line None = []
crowd_line (Some n) = (TooClose n, true) ∷ []

-- the table for a hole where bar and bolt are there
abbrev pub hole_fault : Bar → Bolt → List Hole → Hole → Option Fault
hole_fault bar bolt hs h =
    first ((Full, nat_le 32 (length hs)) ∷ (DiameterOutside, not (drilled bolt h)) ∷ (CentreOutside, not (placed bar h))
    ∷ crowd_line (crowding (diameter_of bolt.size) h hs 1))

unfoldable pub put_fault_by : Option Bar → Option Bolt → List Hole → Hole → Option Fault
put_fault_by None bolt hs h = Some NoBarOrBolt
put_fault_by (Some bar) None hs h = Some NoBarOrBolt
put_fault_by (Some bar) (Some bolt) hs h = hole_fault bar bolt hs h

abbrev pub put_fault : Account → Hole → Option Fault
put_fault a h = put_fault_by a.bar a.bolt a.holes h

abbrev pub with_hole : Account → Hole → Account
with_hole a h = record { bar = a.bar; bolt = a.bolt; holes = add h a.holes; loads = a.loads }

abbrev pub Puts : Account → ℕ → ℕ → ℕ → Result (Unit {0}) Fault → Account → Type 0
Puts a x y d r b = Settled (put_fault a (hole_at x y d)) a (with_hole a (hole_at x y d)) r b

-- ---- take

abbrev pub take_fault : Account → ℕ → ℕ → Option Fault
take_fault a x y = first ((NoHoleThere, not (has_centre x y a.holes)) ∷ [])

abbrev pub without_hole : Account → ℕ → ℕ → Account
without_hole a x y = record { bar = a.bar; bolt = a.bolt; holes = without x y a.holes; loads = a.loads }

abbrev pub Takes : Account → ℕ → ℕ → Result (Unit {0}) Fault → Account → Type 0
Takes a x y r b = Settled (take_fault a x y) a (without_hole a x y) r b

-- ---- load

abbrev pub load_fault : ℕ → ℤ → Option Fault
load_fault letter n = first ((UnknownLoad, not (is_some (kind_of letter))) ∷ (LoadOutOfRange, not (bearable n)) ∷ [])

abbrev pub set_load : Option LoadKind → List ℤ → ℤ → List ℤ
set_load None ls n = ls
set_load (Some k) ls n = slice_set ls (kind_number k) n

abbrev pub loaded : Account → ℕ → ℤ → Account
loaded a letter n = record { bar = a.bar; bolt = a.bolt; holes = a.holes; loads = set_load (kind_of letter) a.loads n }

abbrev pub Loads : Account → ℕ → ℤ → Result (Unit {0}) Fault → Account → Type 0
Loads a c n r b = Settled (load_fault c n) a (loaded a c n) r b

-- ---- judge and page

abbrev pub joint_fault : Account → Option Fault
joint_fault a = first ((NoBarOrBolt, not (is_some a.bar && is_some a.bolt)) ∷ (NoHoles, none a.holes) ∷ [])
