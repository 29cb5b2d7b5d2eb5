-- The greatest values: of the tables, of a net width, and of the lengths in bearing.
use Rattle.std.specs.Prelude.{◌≡◌, ◌==◌, ℕ, suc, ◌-◌, ◌*◌, ◌≤◌, min, List, [], ◌∷◌, map, length, replicate, sum_by, sum, ℤ, pos, negsuc, ◌≤ℤ◌, refl}
use Rattle.std.specs.List.{flat_map}
use Rattle.std.proofs.Common.{lit≤, ap, ◌∙◌, mul-le-mul, add-mul, arith}
use Rattle.std.proofs.ByRecursion.{folded_min_z_bounds}
use Rattle.std.proofs.lemmas.Bool.{cond_both}
use Rattle.std.proofs.lemmas.Int.{ints}
use Rattle.std.proofs.lemmas.List.{length-append, length-map}
use Rattle.std.proofs.lemmas.List.Folds.{sum_by-replicate}
use Rattle.std.proofs.lemmas.List.Sums.{sum_by-cons, sum_by-le, sum-map}
use Rattle.parts.specs.declared.hole.Hole.{Hole}
use Rattle.parts.specs.declared.steel.Steel.{Steel}
use Rattle.parts.specs.declared.steel.Steel.TheVariants.{A36, A529, A572Grade42, A572Grade50, A572Grade60, A572Grade65}
use Rattle.parts.specs.declared.bolt.Size.{Size}
use Rattle.parts.specs.declared.bolt.Size.TheVariants.{M16, M20, M22, M24}
use Rattle.parts.specs.Steels.{yield_stress, tensile_stress}
use Rattle.parts.specs.Sizes.{diameter_of, area_of}
use Rattle.sheet.specs.Details.{Details, Sound}
use Rattle.chains.specs.Chains.{width}
use Rattle.chains.specs.NetWidth.{net_width, all_chains}
use Rattle.limits.specs.Strengths.{counted}
use Rattle.limits.specs.Bearing.{Line, members, join, lines, spacings, roomy, clear_lengths, lengths, bearing_length}

pub yield_most : (s : Steel) → yield_stress s ≤ 450
yield_most A36 = lit≤ tt
yield_most A529 = lit≤ tt
yield_most A572Grade42 = lit≤ tt
yield_most A572Grade50 = lit≤ tt
yield_most A572Grade60 = lit≤ tt
yield_most A572Grade65 = lit≤ tt

pub tensile_most : (s : Steel) → tensile_stress s ≤ 550
tensile_most A36 = lit≤ tt
tensile_most A529 = lit≤ tt
tensile_most A572Grade42 = lit≤ tt
tensile_most A572Grade50 = lit≤ tt
tensile_most A572Grade60 = lit≤ tt
tensile_most A572Grade65 = lit≤ tt

pub area_most : (s : Size) → area_of s ≤ 452
area_most M16 = lit≤ tt
area_most M20 = lit≤ tt
area_most M22 = lit≤ tt
area_most M24 = lit≤ tt

pub diameter_most : (s : Size) → diameter_of s ≤ 24
diameter_most M16 = lit≤ tt
diameter_most M20 = lit≤ tt
diameter_most M22 = lit≤ tt
diameter_most M24 = lit≤ tt

net_below : (bar : ℕ) (hs : List Hole) → net_width bar hs ≤ℤ pos (1000 * bar)
unfolding net_width
net_below bar hs = (folded_min_z_bounds (pos (1000 * bar)) (map (width bar hs) (all_chains hs)) _ refl).0

counted_below : (z : ℤ) (n : ℕ) → z ≤ℤ pos n → counted z ≤ n
counted_below (pos m) n h = omega (arith, ints)
counted_below (negsuc m) n h = omega arith

-- a net width is at most the bar's
pub net_most : (d : Details) → Sound d → counted (net_width d.bar.width d.holes) ≤ 1000000
net_most d w =
    let below = counted_below (net_width d.bar.width d.holes) (1000 * d.bar.width) (net_below d.bar.width d.holes) in
    omega (arith, w.width.1)

join_together : (h : Hole) (ls : List Line) → flat_map members (join h ls) ≡ h ∷ flat_map members ls
join_together h [] = refl
join_together h (l ∷ ls) =
    cond_both (h.y == l.first.y) (record { first = h; others = members l } ∷ ls) (record { first = h; others = [] } ∷ l ∷ ls) (λ ms. flat_map members ms ≡ h ∷ flat_map members (l ∷ ls)) (λ _. refl) (λ _. refl)

-- the lines put together are the holes
pub lines_together : (hs : List Hole) → flat_map members (lines hs) ≡ hs
lines_together [] = refl
lines_together (h ∷ hs) = join_together h (lines hs) ∙ ap (λ ms. h ∷ ms) (lines_together hs)

length-spacings : (h : Hole) (ks : List Hole) → length (spacings h ks) ≡ length ks
length-spacings h [] = refl
length-spacings h (k ∷ ks) = ap suc (length-spacings k ks)

-- no length is above 2.4 diameters
pub line_most : (d : ℕ) (l : Line) → sum (lengths d l) ≤ length (members l) * (24 * d)
line_most d l =
    let apart = map (λ s. 10 * s - 5 * d) (spacings l.first l.others) in
    let long : length apart ≡ length l.others = length-map (spacings l.first l.others) (λ s. 10 * s - 5 * d) ∙ length-spacings l.first l.others in
    cond_both (roomy d l) (replicate (length (members l)) (24 * d)) (clear_lengths d l) (λ ss. sum ss ≤ length (members l) * (24 * d))
    (λ _. omega (arith, sum_by-replicate (λ s. s) (length (members l)) (24 * d)))
    (λ _. omega (
      arith,
      sum-map (λ s. min s (24 * d)) (10 * l.first.x ∷ apart),
      sum_by-le (λ s. min s (24 * d)) (24 * d) (10 * l.first.x ∷ apart) (λ k s n. omega arith),
      ap (λ n. suc n * (24 * d)) long,
    ))

lines_most : (d : ℕ) (ls : List Line) → sum_by (λ l. sum (lengths d l)) ls ≤ length (flat_map members ls) * (24 * d)
lines_most d [] = omega arith
lines_most d (l ∷ ls) =
    let begins = sum_by-cons (λ k. sum (lengths d k)) l ls in
    let longer = length-append (members l) (flat_map members ls) in
    omega (arith, line_most d l, lines_most d ls, add-mul (length (members l)) (length (flat_map members ls)) (24 * d), ap (λ n. n * (24 * d)) longer)

pub bearing_most : (d : Details) → Sound d → bearing_length (diameter_of d.bolt.size) d.holes ≤ 18432
bearing_most d w =
    let n = diameter_of d.bolt.size in
    let most = lines_most n (lines d.holes) in
    let small : 24 * n ≤ 576 = omega (arith, diameter_most d.bolt.size) in
    omega (arith, ap (λ hs. length hs * (24 * n)) (lines_together d.holes), mul-le-mul w.few small)
