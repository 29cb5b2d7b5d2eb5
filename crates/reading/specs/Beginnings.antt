-- The good beginnings of a page: what stands on the lines that are read so far.
use Rattle.std.specs.Prelude.{◌≡◌, ℕ, ◌<◌, ◌≤◌, true, List, [], ◌∷◌, ◌++◌, map, reverse, length, replicate, ℤ, pos, Some, None, codes, decimal, ◌≢◌, slice_set}
use Rattle.std.specs.List.{flat_map, AllByRecursion}
use Rattle.parts.specs.declared.bar.Bar.{Bar}
use Rattle.parts.specs.declared.bolt.Bolt.{Bolt}
use Rattle.parts.specs.declared.hole.Hole.{Hole}
use Rattle.parts.specs.declared.load.LoadKind.{LoadKind}
use Rattle.parts.specs.LoadKinds.{kind_number}
use Rattle.parts.specs.Ranges.{bar_ranges, bolt_ranges}
use Rattle.sections.specs.Texts.{Load, bar_words, bolt_words, hole_words, load_words}
use Rattle.sheet.specs.Account.{Account, blank}
use Rattle.sheet.specs.Calls.{put_fault}
use Rattle.sheet.specs.Law.{add, bearable}
use Rattle.text.specs.Words.{line}

-- after which line the page stands, and what it has said; holes and loads with the last line's first
pub data Beginning : Type 0 where
  nothing : Beginning
  bar_named : Beginning
  barred : Bar → Beginning
  bolt_named : Bar → Beginning
  bolted : Bar → Bolt → Beginning
  -- so many holes are announced, and these have come
  holing : Bar → Bolt → ℕ → List Hole → Beginning
  -- all holes have come, the loads are announced, and these have come
  loading : Bar → Bolt → List Hole → List Load → Beginning

-- the first line of a section
abbrev pub header_words : ℕ → List ℕ → List (List ℕ)
header_words n name = decimal n ∷ name ∷ []

-- the lines up to the bolt's, and up to the holes: each line as its pieces, the last first
abbrev pub bolt_lines : Bar → Bolt → List (List (List ℕ))
bolt_lines b t = bolt_words t ∷ header_words 1 (codes "bolt") ∷ bar_words b ∷ header_words 1 (codes "bar") ∷ []

abbrev pub hole_lines : Bar → Bolt → ℕ → List Hole → List (List (List ℕ))
hole_lines b t n hs = map hole_words hs ++ header_words n (codes "holes") ∷ bolt_lines b t

-- its lines, in the same way
abbrev pub lines : Beginning → List (List (List ℕ))
lines nothing = []
lines bar_named = header_words 1 (codes "bar") ∷ []
lines (barred b) = bar_words b ∷ header_words 1 (codes "bar") ∷ []
lines (bolt_named b) = header_words 1 (codes "bolt") ∷ bar_words b ∷ header_words 1 (codes "bar") ∷ []
lines (bolted b t) = bolt_lines b t
lines (holing b t n hs) = hole_lines b t n hs
lines (loading b t hs ps) = map load_words ps ++ header_words 7 (codes "loads") ∷ hole_lines b t (length hs) hs

-- its text
abbrev pub written : Beginning → List ℕ
written b = flat_map line (reverse (lines b))

-- the holes of the lines so far, in number order
abbrev pub numbered : List Hole → List Hole
numbered [] = []
numbered (h ∷ hs) = add h (numbered hs)

-- the loads of the lines so far, the others 0
abbrev pub borne : List Load → List ℤ
borne [] = replicate 7 (pos 0)
borne (p ∷ ps) = slice_set (borne ps) (kind_number p.0) p.1

-- the account of what is said so far
abbrev pub account_of : Beginning → Account
account_of nothing = blank
account_of bar_named = blank
account_of (barred b) = record { bar = Some b; bolt = None; holes = []; loads = borne [] }
account_of (bolt_named b) = record { bar = Some b; bolt = None; holes = []; loads = borne [] }
account_of (bolted b t) = record { bar = Some b; bolt = Some t; holes = []; loads = borne [] }
account_of (holing b t n hs) = record { bar = Some b; bolt = Some t; holes = numbered hs; loads = borne [] }
account_of (loading b t hs ps) = record { bar = Some b; bolt = Some t; holes = numbered hs; loads = borne ps }

-- a load's letter has not stood before
abbrev pub Fresh : LoadKind → List Load → Type 0
Fresh k ps = AllByRecursion (λ p. p.0 ≢ k) ps

-- each hole could be put on the account before it, and there were not yet n
abbrev pub HolesGood : Bar → Bolt → ℕ → List Hole → Type 0
HolesGood b t n [] = Unit {0}
HolesGood b t n (h ∷ hs) = HolesGood b t n hs × (length hs < n) × (put_fault (account_of (holing b t n hs)) h ≡ None)

-- at most seven loads, each with a letter of its own and in its range
abbrev pub LoadsGood : List Load → Type 0
LoadsGood [] = Unit {0}
LoadsGood (p ∷ ps) = LoadsGood ps × (length ps < 7) × Fresh p.0 ps × (bearable p.1 ≡ true)

-- every line so far is good
abbrev pub Lawful : Beginning → Type 0
Lawful nothing = Unit {0}
Lawful bar_named = Unit {0}
Lawful (barred b) = bar_ranges b ≡ true
Lawful (bolt_named b) = bar_ranges b ≡ true
Lawful (bolted b t) = (bar_ranges b ≡ true) × (bolt_ranges t ≡ true)
Lawful (holing b t n hs) = (bar_ranges b ≡ true) × (bolt_ranges t ≡ true) × (n ≤ 32) × HolesGood b t n hs
Lawful (loading b t hs ps) = (bar_ranges b ≡ true) × (bolt_ranges t ≡ true) × (length hs ≤ 32) × HolesGood b t (length hs) hs × LoadsGood ps
