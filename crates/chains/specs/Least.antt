-- The least chain.
use Rattle.std.specs.Prelude.{◌≡◌, ℕ, ◌<◌, ◌⊎◌, List, [], ◌∷◌, ◌≤ℤ◌}
use Rattle.parts.specs.declared.hole.Hole.{Hole}
use Rattle.chains.specs.Chains.{Chain, width}

-- from the last hole backwards: at the first difference the smaller number stands left, and no further hole counts as 0
abbrev pub NoLater : List ℕ → List ℕ → Type 0
NoLater [] ms = Unit {0}
NoLater (n ∷ ns) [] = ⊥
NoLater (n ∷ ns) (m ∷ ms) = (n < m) ⊎ ((n ≡ m) × NoLater ns ms)

-- no chain is narrower, and of those as narrow it comes first
pub record Least (bar : ℕ) (hs : List Hole) (ns : List ℕ) : Type 0 where
  pub chain : Chain hs ns
  pub narrowest : (ms : List ℕ) → Chain hs ms → width bar hs ns ≤ℤ width bar hs ms
  pub first : (ms : List ℕ) → Chain hs ms → width bar hs ms ≡ width bar hs ns → NoLater ns ms

-- there is one least chain
abbrev pub Once : ℕ → List Hole → Type 0
Once bar hs = (ns ms : List ℕ) → Least bar hs ns → Least bar hs ms → ns ≡ ms
