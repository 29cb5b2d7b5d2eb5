-- What is asked of one hole, and of two.
use Rattle.std.specs.Prelude.{ℕ, ◌+◌, ◌-◌, ◌*◌, Bool, ◌&&◌, ◌||◌, ◌==◌, nat_le, nat_lt}
use Rattle.parts.specs.declared.bar.Bar.{Bar}
use Rattle.parts.specs.declared.bolt.Bolt.{Bolt}
use Rattle.parts.specs.declared.hole.Hole.{Hole}
use Rattle.parts.specs.Ranges.{within}
use Rattle.parts.specs.Sizes.{diameter_of}

-- holes are numbered by rising y, and by rising x where y is equal
abbrev pub before : Hole → Hole → Bool
before a b = nat_lt a.y b.y || (a.y == b.y && nat_lt a.x b.x)

abbrev pub centred : ℕ → ℕ → Hole → Bool
centred x y h = h.x == x && h.y == y

-- the difference of two numbers
abbrev pub gap : ℕ → ℕ → ℕ
gap m n = (m - n) + (n - m)

-- 9 × (Δx² + Δy²) ≥ 64 × d²: at least 2 2/3 bolt diameters
abbrev pub apart : ℕ → Hole → Hole → Bool
apart d a b = nat_le (64 * (d * d)) (9 * (gap a.x b.x * gap a.x b.x + gap a.y b.y * gap a.y b.y))

-- x lies from the edge distance to 1,200, and y from it to the width less it
abbrev pub placed : Bar → Hole → Bool
placed bar h = within bar.edge 1200 h.x && (nat_le bar.edge h.y && nat_le (h.y + bar.edge) bar.width)

-- a diameter from the bolt's to 8 more
abbrev pub drilled : Bolt → Hole → Bool
drilled bolt h = within (diameter_of bolt.size) (diameter_of bolt.size + 8) h.diameter
