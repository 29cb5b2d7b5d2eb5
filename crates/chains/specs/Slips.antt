-- A slip of 32 places, on which a chain is named, first hole first.
use Rattle.std.specs.Prelude.{◌≡◌, ℕ, zero, suc, List, [], ◌∷◌, reverse, ℤ}
use Rattle.parts.specs.declared.hole.Hole.{Hole}
use Rattle.chains.specs.Chains.{width}
use Rattle.chains.specs.Least.{Least}

-- a slip with the numbers in its first places, then a 0 if a place remains; its other places stay
abbrev pub filed : List ℕ → List ℕ → List ℕ
filed ns [] = []
filed [] (s ∷ ss) = 0 ∷ ss
filed (n ∷ ns) (s ∷ ss) = n ∷ filed ns ss

-- a slip up to a 0 or its end
abbrev pub told : List ℕ → List ℕ
told [] = []
told (zero ∷ ss) = []
told (suc n ∷ ss) = suc n ∷ told ss

-- the slip names the least chain and is otherwise as before, and the answer is that chain's width
pub record Named (bar : ℕ) (hs : List Hole) (before after : List ℕ) (net : ℤ) : Type 0 where
  pub chain : List ℕ
  pub least : Least bar hs chain
  pub wide : net ≡ width bar hs chain
  pub slip : after ≡ filed (reverse chain) before
  pub reads : told after ≡ reverse chain
