-- The net width: the least over a list of all chains.
use Rattle.std.specs.Prelude.{ℕ, zero, suc, ◌*◌, Bool, true, false, ◌&&◌, List, [], ◌∷◌, ◌++◌, map, length, ℤ, pos, fold, filter, nat_lt}
use Rattle.std.specs.Int.{int_min}
use Rattle.parts.specs.declared.hole.Hole.{Hole}
use Rattle.chains.specs.Chains.{the, width}

-- all lists of numbers from n down to 1, each below the one before
abbrev pub falls : ℕ → List (List ℕ)
falls zero = [] ∷ []
falls (suc n) = falls n ++ map (λ ns. suc n ∷ ns) (falls n)

-- one number or more, with strictly rising y
abbrev pub chained : List Hole → List ℕ → Bool
chained hs [] = false
chained hs (n ∷ []) = true
chained hs (n ∷ m ∷ ns) = nat_lt (the hs m).y (the hs n).y && chained hs (m ∷ ns)

abbrev pub all_chains : List Hole → List (List ℕ)
all_chains hs = filter (chained hs) (falls (length hs))

-- the least width of the chains, and without holes the bar's
unfoldable pub net_width : ℕ → List Hole → ℤ
net_width bar hs = fold int_min (pos (1000 * bar)) (map (width bar hs) (all_chains hs))
