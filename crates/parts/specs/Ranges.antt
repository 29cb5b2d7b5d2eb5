-- The ranges of a bar's and a bolt's numbers.
use Rattle.std.specs.Prelude.{ℕ, Bool, ◌&&◌, nat_le}
use Rattle.parts.specs.declared.bar.Bar.{Bar}
use Rattle.parts.specs.declared.bolt.Bolt.{Bolt}

abbrev pub within : ℕ → ℕ → ℕ → Bool
within low high n = nat_le low n && nat_le n high

-- width 50 to 1,000, thickness 3 to 50, edge distance 24 to 200
abbrev pub bar_ranges : Bar → Bool
bar_ranges b = within 50 1000 b.width && (within 3 50 b.thickness && within 24 200 b.edge)

-- shear stress 1 to 1,000, one or two planes
abbrev pub bolt_ranges : Bolt → Bool
bolt_ranges b = within 1 1000 b.stress.0 && within 1 2 b.planes
