-- What it means that a hole joins the others, or leaves them: the same holes and one more, or one fewer, in number order.
use Rattle.std.specs.Prelude.{◌≡◌, ℕ, true, List, ◌∷◌}
use Rattle.std.specs.List.Sorted.{IsPermutation}
use Rattle.parts.specs.declared.hole.Hole.{Hole}
use Rattle.parts.specs.Holes.{before, centred}
use Rattle.sheet.specs.Law.{pairs}

pub record Joins (h : Hole) (old new : List Hole) : Type 0 where
  pub same : IsPermutation (h ∷ old) new
  pub order : pairs before new ≡ true

pub record Leaves (x y : ℕ) (old new : List Hole) : Type 0 where
  pub hole : Hole
  pub centre : centred x y hole ≡ true
  pub same : IsPermutation (hole ∷ new) old
  pub order : pairs before new ≡ true
