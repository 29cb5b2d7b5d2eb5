-- A line, piece by piece as it is written.
use Rattle.std.proofs.Common.{◌≡◌, ℕ, List, [], ◌∷◌, ◌++◌, sym, refl, append_assoc}
use Rattle.text.specs.Words.{spaced, line}

pub one_spelled : (w : List ℕ) → w ++ (10 ∷ []) ≡ line (w ∷ [])
unfolding line
one_spelled w = refl

pub more_spelled : (w v : List ℕ) (vs : List (List ℕ)) → w ++ ((32 ∷ []) ++ line (v ∷ vs)) ≡ line (w ∷ v ∷ vs)
unfolding line
more_spelled w v vs = sym (append_assoc w (32 ∷ spaced (v ∷ vs)) (10 ∷ []))
