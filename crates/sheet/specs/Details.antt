-- A joint: what it shows of its sheet, and what is certain of it.
use Rattle.std.specs.Prelude.{◌≡◌, ℕ, ◌+◌, ◌*◌, ◌<◌, ◌≤◌, ◌⊎◌, List, length, ℤ, pos, negsuc, ◌≤ℤ◌, Some, None, Ok, Err, Result, slice_index_or}
use Rattle.std.specs.Option.{unwrap_or}
use Rattle.parts.specs.declared.hole.Hole.{Hole}
use Rattle.parts.specs.declared.bar.Bar.{Bar}
use Rattle.parts.specs.declared.bolt.Bolt.{Bolt}
use Rattle.parts.specs.declared.bolt.Size.TheVariants.{M16}
use Rattle.parts.specs.declared.steel.Steel.TheVariants.{A36}
use Rattle.parts.specs.declared.fault.Fault.{Fault}
use Rattle.parts.specs.Holes.{gap}
use Rattle.parts.specs.Sizes.{diameter_of}
use Rattle.sheet.specs.Account.{Account}
use Rattle.sheet.specs.Calls.{joint_fault}
use Rattle.sheet.specs.Rows.{holes_of}
use Rattle.sheet.specs.declared.sheet.joint.Joint.{Joint}

-- bar, bolt, holes in number order, and loads: nothing else decides a judgment
pub record Details : Type 0 where
  pub bar : Bar
  pub bolt : Bolt
  pub holes : List Hole
  pub loads : List ℤ

-- the account of a sheet with these details
abbrev pub whole : Details → Account
whole d = record { bar = Some d.bar; bolt = Some d.bolt; holes = d.holes; loads = d.loads }

-- what a read past the end would give
abbrev pub no_hole : Hole
no_hole = record { x = 0; y = 0; diameter = 0 }

abbrev pub no_bar : Bar
no_bar = record { width = 0; thickness = 0; steel = A36; edge = 0 }

abbrev pub no_bolt : Bolt
no_bolt = record { size = M16; stress = record { 0 = 0 }; planes = 0 }

-- the details of a joint
abbrev pub details : Joint → Details
details j = record {
  bar = unwrap_or j.sheet.now.bar no_bar;
  bolt = unwrap_or j.sheet.now.bolt no_bolt;
  holes = holes_of j.sheet.now.row;
  loads = j.sheet.now.loads;
}

pub record Placed (bar : Bar) (h : Hole) : Type 0 where
  pub x_low : bar.edge ≤ h.x
  pub x_high : h.x ≤ 1200
  pub y_low : bar.edge ≤ h.y
  pub y_high : h.y + bar.edge ≤ bar.width

pub record Drilled (bolt : Bolt) (h : Hole) : Type 0 where
  pub low : diameter_of bolt.size ≤ h.diameter
  pub high : h.diameter ≤ diameter_of bolt.size + 8

-- the earlier of two numbers: y is smaller, or equal with smaller x
abbrev pub Before : Hole → Hole → Type 0
Before a b = (a.y < b.y) ⊎ ((a.y ≡ b.y) × (a.x < b.x))

-- 2 2/3 bolt diameters from centre to centre
abbrev pub Apart : Bolt → Hole → Hole → Type 0
Apart bolt a b =
    64 * (diameter_of bolt.size * diameter_of bolt.size)
    ≤ 9 * (gap a.x b.x * gap a.x b.x + gap a.y b.y * gap a.y b.y)

-- what is certain of every joint
pub record Sound (d : Details) : Type 0 where
  pub width : (50 ≤ d.bar.width) × (d.bar.width ≤ 1000)
  pub thickness : (3 ≤ d.bar.thickness) × (d.bar.thickness ≤ 50)
  pub edge : (24 ≤ d.bar.edge) × (d.bar.edge ≤ 200)
  pub stress : (1 ≤ d.bolt.stress.0) × (d.bolt.stress.0 ≤ 1000)
  pub planes : (1 ≤ d.bolt.planes) × (d.bolt.planes ≤ 2)
  pub some : 0 < length d.holes
  pub few : length d.holes ≤ 32
  pub placed : (k : ℕ) → k < length d.holes → Placed d.bar (slice_index_or d.holes k no_hole)
  pub drilled : (k : ℕ) → k < length d.holes → Drilled d.bolt (slice_index_or d.holes k no_hole)
  pub order : (j k : ℕ) → j < k → k < length d.holes → Before (slice_index_or d.holes j no_hole) (slice_index_or d.holes k no_hole)
  pub spaced : (j k : ℕ) → j < k → k < length d.holes → Apart d.bolt (slice_index_or d.holes j no_hole) (slice_index_or d.holes k no_hole)
  pub seven : length d.loads ≡ 7
  pub bearable : (k : ℕ) → k < 7 → (negsuc 9999999 ≤ℤ slice_index_or d.loads k (pos 0)) × (slice_index_or d.loads k (pos 0) ≤ℤ pos 10000000)

-- a joint is had exactly from a sheet that can be judged: with all that the sheet holds
abbrev pub JointOf : Account → Result Joint Fault → Type 0
JointOf a (Ok j) = (joint_fault a ≡ None) × (a ≡ whole (details j)) × Sound (details j)
JointOf a (Err f) = joint_fault a ≡ Some f
