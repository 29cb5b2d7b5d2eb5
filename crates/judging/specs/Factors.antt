-- Inner: a row as a sum of loads times factors. No public contract rests on these words.
use Rattle.std.specs.Prelude.{ℕ, ◌+◌, List, [], ◌∷◌, ℤ, pos, negsuc, ◌+ℤ◌, ◌*ℤ◌, ◌≤ℤ◌, slice_index_or}

-- no factor is beyond 1.6 either way
pub record Small (z : ℤ) : Type 0 where
  pub low : negsuc 15 ≤ℤ z
  pub high : z ≤ℤ pos 16

-- the sum of the loads from number k on, each times its factor
abbrev pub weighted_from : ℕ → List ℤ → List ℤ → ℤ
weighted_from k [] loads = pos 0
weighted_from k (f ∷ fs) loads = (f *ℤ slice_index_or loads k (pos 0)) +ℤ weighted_from (k + 1) fs loads

abbrev pub weighted : List ℤ → List ℤ → ℤ
weighted factors loads = weighted_from 0 factors loads
