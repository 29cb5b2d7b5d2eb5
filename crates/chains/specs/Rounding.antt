-- What rounding costs. Both sides are whole numbers: widths times the product of the chain's gages.
use Rattle.std.specs.Prelude.{ℕ, ◌+◌, ◌*◌, List, [], ◌∷◌, ℤ, pos, ◌+ℤ◌, ◌-ℤ◌, ◌*ℤ◌, ◌≤ℤ◌}
use Rattle.parts.specs.declared.hole.Hole.{Hole}
use Rattle.chains.specs.Chains.{the, Chain, gage, square, cuts}

-- the product of the gages of a chain's neighbours, each above 0
abbrev pub gages : List Hole → List ℕ → ℕ
gages hs [] = 1
gages hs (n ∷ []) = 1
gages hs (n ∷ m ∷ ns) = gage (the hs m) (the hs n) * gages hs (m ∷ ns)

-- the sum of the unrounded stagger terms, 250 × s² / g, times that product
abbrev pub exact_terms : List Hole → List ℕ → ℕ
exact_terms hs [] = 0
exact_terms hs (n ∷ []) = 0
exact_terms hs (n ∷ m ∷ ns) = square (the hs m) (the hs n) * gages hs (m ∷ ns) + gage (the hs m) (the hs n) * exact_terms hs (m ∷ ns)

-- the unrounded width, times that product
abbrev pub exact_width : ℕ → List Hole → List ℕ → ℤ
exact_width bar hs ns = pos (1000 * bar * gages hs ns + exact_terms hs ns) -ℤ pos (cuts hs ns * gages hs ns)

-- a net width from rounded terms is above no chain's unrounded width, and at most 31 µm below some chain's
pub record Rounded (bar : ℕ) (hs : List Hole) (net : ℤ) : Type 0 where
  pub above_none : (ms : List ℕ) → Chain hs ms → (net *ℤ pos (gages hs ms)) ≤ℤ exact_width bar hs ms
  pub near : List ℕ
  pub near_chain : Chain hs near
  pub near_some : exact_width bar hs near ≤ℤ ((net +ℤ pos 31) *ℤ pos (gages hs near))
