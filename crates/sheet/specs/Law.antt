-- What holds of the holes and loads of every sheet. Tests over plain data, since the sheet's type cites them.
use Rattle.std.specs.Prelude.{ℕ, ◌+◌, Bool, true, false, cond, ◌&&◌, ◌||◌, List, [], ◌∷◌, length, ℤ, pos, negsuc, Some, None, Option, ◌==◌, int_le}
use Rattle.parts.specs.declared.hole.Hole.{Hole}
use Rattle.parts.specs.declared.bar.Bar.{Bar}
use Rattle.parts.specs.declared.bolt.Bolt.{Bolt}
use Rattle.parts.specs.Holes.{before, apart, placed, drilled, centred}
use Rattle.parts.specs.Sizes.{diameter_of}

-- the test passes at each hole
abbrev pub each : (Hole → Bool) → List Hole → Bool
each p [] = true
each p (h ∷ hs) = p h && each p hs

-- the test passes at each two holes, the earlier one first
abbrev pub pairs : (Hole → Hole → Bool) → List Hole → Bool
pairs r [] = true
pairs r (h ∷ hs) = each (r h) hs && pairs r hs

abbrev pub none : List Hole → Bool
none hs = length hs == 0

-- whether the test passes; where there is nothing to test it passes
abbrev pub holds : {X : Type 0} → (X → Bool) → Option X → Bool
holds t None = true
holds t (Some x) = t x

-- each hole in its place, in number order and apart; and without bar and bolt no hole
unfoldable pub lawful : Option Bar → Option Bolt → List Hole → Bool
lawful None bolt hs = none hs
lawful (Some bar) None hs = none hs
lawful (Some bar) (Some bolt) hs =
    each (λ h. placed bar h && drilled bolt h) hs && (pairs before hs && pairs (apart (diameter_of bolt.size)) hs)

-- the number of the first hole that is too close to h, counted from n
abbrev pub crowding : ℕ → Hole → List Hole → ℕ → Option ℕ
crowding d h [] n = None
crowding d h (k ∷ ks) n = cond (apart d k h) (crowding d h ks (n + 1)) (Some n)

-- h after the holes that come before it
abbrev pub add : Hole → List Hole → List Hole
add h [] = h ∷ []
add h (k ∷ ks) = cond (before k h) (k ∷ add h ks) (h ∷ k ∷ ks)

-- whether a hole has its centre at (x, y)
abbrev pub has_centre : ℕ → ℕ → List Hole → Bool
has_centre x y [] = false
has_centre x y (k ∷ ks) = centred x y k || has_centre x y ks

-- the holes without the one whose centre is (x, y)
abbrev pub without : ℕ → ℕ → List Hole → List Hole
without x y [] = []
without x y (k ∷ ks) = cond (centred x y k) ks (k ∷ without x y ks)

-- a load from −10,000,000 to 10,000,000
abbrev pub bearable : ℤ → Bool
bearable n = int_le (negsuc 9999999) n && int_le n (pos 10000000)

abbrev pub all_bearable : List ℤ → Bool
all_bearable [] = true
all_bearable (n ∷ ns) = bearable n && all_bearable ns
