-- Chains of holes across a bar, and their net widths.
-- Holes are numbered from 1. A chain is written from its last hole backwards, as ties are decided from there.
use Rattle.std.specs.Prelude.{ℕ, ◌+◌, ◌-◌, ◌*◌, ◌/◌, ◌<◌, ◌≤◌, List, [], ◌∷◌, length, ℤ, pos, ◌-ℤ◌, slice_index_or}
use Rattle.parts.specs.declared.hole.Hole.{Hole}
use Rattle.parts.specs.Holes.{gap}
use Rattle.sheet.specs.Details.{no_hole}

-- the hole of a number
abbrev pub the : List Hole → ℕ → Hole
the hs n = slice_index_or (no_hole ∷ hs) n no_hole

-- one hole or more, with strictly rising y
abbrev pub Chain : List Hole → List ℕ → Type 0
Chain hs [] = ⊥
Chain hs (n ∷ []) = (1 ≤ n) × (n ≤ length hs)
Chain hs (n ∷ m ∷ ns) = (1 ≤ n) × (n ≤ length hs) × ((the hs m).y < (the hs n).y) × Chain hs (m ∷ ns)

-- s, the distance of two neighbours along the force, in mm
abbrev pub pitch : Hole → Hole → ℕ
pitch low high = gap low.x high.x

-- g, their distance across it
abbrev pub gage : Hole → Hole → ℕ
gage low high = high.y - low.y

-- 250 × s²
abbrev pub square : Hole → Hole → ℕ
square low high = 250 * (pitch low high * pitch low high)

-- what their stagger gives back, in µm: 250 × s² / g, rounded down by itself
abbrev pub term : Hole → Hole → ℕ
term low high = square low high / gage low high

-- what a hole takes from the width, in µm
abbrev pub cut : Hole → ℕ
cut h = 1000 * (h.diameter + 2)

abbrev pub cuts : List Hole → List ℕ → ℕ
cuts hs [] = 0
cuts hs (n ∷ ns) = cut (the hs n) + cuts hs ns

abbrev pub terms : List Hole → List ℕ → ℕ
terms hs [] = 0
terms hs (n ∷ []) = 0
terms hs (n ∷ m ∷ ns) = term (the hs m) (the hs n) + terms hs (m ∷ ns)

-- in µm: the bar's width, less each hole's cut, plus the stagger term of each two neighbours
abbrev pub width : ℕ → List Hole → List ℕ → ℤ
width bar hs ns = pos (1000 * bar + terms hs ns) -ℤ pos (cuts hs ns)
