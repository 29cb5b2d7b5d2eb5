-- Lines of holes, and the lengths on which a line's bolts bear, in tenths of a millimetre.
use Rattle.std.specs.Prelude.{◌≡◌, ℕ, ◌-◌, ◌*◌, ◌<◌, ◌≤◌, min, Bool, cond, ◌&&◌, List, [], ◌∷◌, map, length, drop, replicate, sum_by, sum, ◌==◌, nat_le, slice_index_or}
use Rattle.std.specs.List.{flat_map, list_all, AllByRecursion, AllAdjacentBelow}
use Rattle.parts.specs.declared.hole.Hole.{Hole}
use Rattle.sheet.specs.Details.{no_hole}

-- holes of equal y: the nearest to the bolted end, and the others
pub record Line : Type 0 where
  pub first : Hole
  pub others : List Hole

-- its holes
abbrev pub members : Line → List Hole
members l = l.first ∷ l.others

-- the line of these holes
abbrev pub line_of : List Hole → Line
line_of hs = record { first = slice_index_or hs 0 no_hole; others = drop 1 hs }

-- a hole before lines: in the first of them where that has its y, else in a line of its own
abbrev pub join : Hole → List Line → List Line
join h [] = record { first = h; others = [] } ∷ []
join h (l ∷ ls) =
    cond (h.y == l.first.y) (record { first = h; others = members l } ∷ ls) (record { first = h; others = [] } ∷ l ∷ ls)

-- holes in number order, in lines of equal y
abbrev pub lines : List Hole → List Line
lines [] = []
lines (h ∷ hs) = join h (lines hs)

-- from each hole of a line to the next
abbrev pub spacings : Hole → List Hole → List ℕ
spacings h [] = []
spacings h (k ∷ ks) = (k.x - h.x) ∷ spacings k ks

-- two or more holes, the first 1.5 diameters or more from the end, the spacings 3 or more
abbrev pub roomy : ℕ → Line → Bool
roomy d l =
    nat_le 1 (length l.others) && (nat_le (3 * d) (2 * l.first.x) && list_all (nat_le (3 * d)) (spacings l.first l.others))

-- the first hole's x, and each spacing less half a diameter; none above 2.4 diameters
abbrev pub clear_lengths : ℕ → Line → List ℕ
clear_lengths d l =
    map (λ s. min s (24 * d)) (10 * l.first.x ∷ map (λ s. 10 * s - 5 * d) (spacings l.first l.others))

-- one length for each hole of a line: 2.4 diameters on a roomy one
abbrev pub lengths : ℕ → Line → List ℕ
lengths d l = cond (roomy d l) (replicate (length (members l)) (24 * d)) (clear_lengths d l)

-- the sum of one length for each hole
abbrev pub bearing_length : ℕ → List Hole → ℕ
bearing_length d hs = sum_by (λ l. sum (lengths d l)) (lines hs)

-- each stands to the next as r says
abbrev pub Rising : {X : Type 0} → (X → X → Type 0) → List X → Type 0
Rising r [] = Unit {0}
Rising r (x ∷ []) = Unit {0}
Rising r (x ∷ y ∷ xs) = r x y × Rising r (y ∷ xs)

-- b is the next hole of a's line, 2 2/3 diameters or more beyond it: a spacing less half a diameter is above zero
pub record Next (d : ℕ) (a b : Hole) : Type 0 where
  pub level : a.y ≡ b.y
  pub beyond : a.x < b.x
  pub apart : 8 * d ≤ 3 * (b.x - a.x)

-- holes in line, for bolts of diameter d: some, as many as a joint may have, each well beyond the one before
pub record InLine (d : ℕ) (hs : List Hole) : Type 0 where
  pub some : 0 < length hs
  pub few : length hs ≤ 32
  pub small : d ≤ 24
  pub rising : AllAdjacentBelow (Next d) hs (length hs)

-- the lines put together are the holes; along a line y is equal and x rises; from line to line y rises
pub record Lined (d : ℕ) (hs : List Hole) (ls : List Line) : Type 0 where
  pub together : flat_map members ls ≡ hs
  pub along : AllByRecursion (λ l. Rising (Next d) (members l)) ls
  pub across : Rising (λ k l. k.first.y < l.first.y) ls
