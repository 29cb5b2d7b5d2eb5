-- The strengths of a joint's limit states, in tenths of a newton: a stress in MPa times lengths in mm is a force in newtons.
use Rattle.std.specs.Prelude.{ℕ, ◌*◌, ◌/◌, length, ℤ, pos, negsuc}
use Rattle.parts.specs.Steels.{yield_stress, tensile_stress}
use Rattle.parts.specs.Sizes.{diameter_of, area_of}
use Rattle.sheet.specs.Details.{Details}
use Rattle.chains.specs.NetWidth.{net_width}
use Rattle.limits.specs.Bearing.{bearing_length}

-- a force of n / m newtons in tenths of a newton, rounded down
abbrev pub rounded_down : ℕ → ℕ → ℕ
rounded_down n m = (10 * n) / m

-- gross yielding: 0.90 × yield stress × width × thickness
abbrev pub gross_yielding : Details → ℕ
gross_yielding d = rounded_down (90 * (yield_stress d.bar.steel * (d.bar.width * d.bar.thickness))) 100

-- a width under zero counts as zero
abbrev pub counted : ℤ → ℕ
counted (pos n) = n
counted (negsuc n) = 0

-- net rupture: 0.75 × tensile stress × net width × thickness, the net width in thousandths of a millimetre
abbrev pub net_rupture : Details → ℕ
net_rupture d =
    rounded_down (75 * (tensile_stress d.bar.steel * (counted (net_width d.bar.width d.holes) * d.bar.thickness))) (100 * 1000)

-- bolt shear: 0.75 × shear stress × bolt area × bolts × planes
abbrev pub bolt_shear : Details → ℕ
bolt_shear d = rounded_down (75 * (d.bolt.stress.0 * (area_of d.bolt.size * (length d.holes * d.bolt.planes)))) 100

-- bearing: 0.75 × tensile stress × thickness × the sum of the lengths
abbrev pub bearing : Details → ℕ
bearing d =
    rounded_down (75 * (tensile_stress d.bar.steel * (d.bar.thickness * bearing_length (diameter_of d.bolt.size) d.holes))) (100 * 10)
