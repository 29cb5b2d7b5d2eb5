-- The worked figures at the edges, as one table.
use Rattle.std.specs.Prelude.{◌≡◌, ℕ, List, [], ◌∷◌, map, ℤ, pos, negsuc, Some, None}
use Rattle.std.specs.List.{AllByRecursion}
use Rattle.parts.specs.declared.bar.Bar.{Bar}
use Rattle.parts.specs.declared.bolt.Bolt.{Bolt}
use Rattle.parts.specs.declared.bolt.Size.TheVariants.{M20}
use Rattle.parts.specs.declared.fault.Fault.TheVariants.{TooClose}
use Rattle.parts.specs.declared.hole.Hole.{Hole}
use Rattle.parts.specs.declared.steel.Steel.TheVariants.{A36}
use Rattle.sheet.specs.Account.{Account}
use Rattle.sheet.specs.Calls.{hole_at, put_fault}
use Rattle.sheet.specs.Details.{Details}
use Rattle.chains.specs.Chains.{term, width}
use Rattle.chains.specs.Least.{Least}
use Rattle.limits.specs.Bearing.{lines, lengths}
use Rattle.limits.specs.Rating.{Lawful}
use Rattle.limits.specs.Strengths.{gross_yielding, net_rupture, bolt_shear, bearing}
use Rattle.limits.specs.declared.rated.Rated.{Rated}
use Rattle.judging.specs.Judging.{Judged}
use Rattle.judging.specs.Rows.{rows_of, row}
use Rattle.judging.specs.declared.judgment.Judgment.{Judgment}
use Rattle.judging.specs.declared.judgment.Kind.TheVariants.{Passes, Reverses}

-- 200 wide, 12 thick, of A36, edge distance 30
abbrev pub the_bar : Bar
the_bar = record { width = 200; thickness = 12; steel = A36; edge = 30 }

-- M20 at 330 MPa in one plane
abbrev pub the_bolt : Bolt
the_bolt = record { size = M20; stress = record { 0 = 330 }; planes = 1 }

abbrev pub drilled_at : ℕ → ℕ → Hole
drilled_at x y = hole_at x y 22

abbrev pub three : List Hole
three = drilled_at 40 50 ∷ drilled_at 80 100 ∷ drilled_at 40 150 ∷ []

abbrev pub two : List Hole
two = drilled_at 40 50 ∷ drilled_at 112 104 ∷ []

-- D, L, A, S, R, W, E in newtons
abbrev pub loads : ℤ → ℤ → ℤ → List ℤ
loads d l w = d ∷ l ∷ pos 0 ∷ pos 0 ∷ pos 0 ∷ w ∷ pos 0 ∷ []

abbrev pub three_hole_bar : Details
three_hole_bar = record { bar = the_bar; bolt = the_bolt; holes = three; loads = loads (pos 50000) (pos 60000) (pos 0) }

-- a sheet with this bar, bolt and one hole at (40, 50)
abbrev pub one_hole : Account
one_hole = record { bar = Some the_bar; bolt = Some the_bolt; holes = drilled_at 40 50 ∷ []; loads = loads (pos 0) (pos 0) (pos 0) }

-- the bearing lengths of two M20 holes on one line, in tenths of a millimetre
abbrev pub bearing_lengths : ℕ → ℕ → List (List ℕ)
bearing_lengths near far = map (lengths 20) (lines (drilled_at near 100 ∷ drilled_at far 100 ∷ []))

-- whatever the bank, the bar and the holes
abbrev pub Whenever : List ℤ → (Judgment → Type 0) → Type 0
Whenever ns P =
    (states : List Rated) (bar : ℕ) (holes : List Hole) (j : Judgment) (chain : List ℕ)
    → AllByRecursion Lawful states → Judged (rows_of ns) states bar holes j chain → P j

pub record Figures : Type 0 where
  -- the three-hole bar
  pub gross : gross_yielding three_hole_bar ≡ 5400000
  pub net : net_rupture three_hole_bar ≡ 5184000
  pub shear : bolt_shear three_hole_bar ≡ 2331450
  pub bears : bearing three_hole_bar ≡ 4608000
  pub skips : width 200 three (3 ∷ 1 ∷ []) ≡ pos 152000
  pub stops : width 200 three (2 ∷ 1 ∷ []) ≡ pos 160000
  -- s = 40, g = 70
  pub stagger : term (drilled_at 0 0) (drilled_at 40 70) ≡ 5714
  -- a tie
  pub level_one : width 200 two (1 ∷ []) ≡ pos 176000
  pub level_two : width 200 two (2 ∷ []) ≡ pos 176000
  pub level_both : width 200 two (2 ∷ 1 ∷ []) ≡ pos 176000
  pub named : Least 200 two (1 ∷ [])
  -- 53 apart across, and 54
  pub close : put_fault one_hole (drilled_at 40 103) ≡ Some (TooClose 1)
  pub apart : put_fault one_hole (drilled_at 40 104) ≡ None
  -- one line
  pub roomy : bearing_lengths 30 90 ≡ (480 ∷ 480 ∷ []) ∷ []
  pub near : bearing_lengths 30 89 ≡ (300 ∷ 480 ∷ []) ∷ []
  pub early : bearing_lengths 29 89 ≡ (290 ∷ 480 ∷ []) ∷ []
  -- D 10,000, W 20,000
  pub windy : row (rows_of (loads (pos 10000) (pos 0) (pos 20000))) 17 ≡ negsuc 169999
  pub reversed : Whenever (loads (pos 10000) (pos 0) (pos 20000)) (λ j. j.kind ≡ Reverses)
  -- no loads
  pub unloaded : Whenever (loads (pos 0) (pos 0) (pos 0)) (λ j. (j.row ≡ 1) × (j.kind ≡ Passes))
