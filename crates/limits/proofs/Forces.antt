-- The tensile stress times an area, a length times the bar's thickness, from the values that the code reads.
use Rattle.std.proofs.Common.{◌≡◌, ℕ, ◌*◌, ◌≤◌, ap, ◌∙◌, mul-le-mul, arith}
use Rattle.parts.specs.declared.bar.Bar.{Bar}
use Rattle.parts.specs.Steels.{tensile_stress}
use Rattle.sheet.specs.Details.{Details, Sound}
use Rattle.limits.specs.Bounds.{tensile_most}

module _ (d : Details) (w : Sound d) (bar : Bar) (n l m : ℕ) (bar-is : bar ≡ d.bar) (n-is : n ≡ l) (short : l ≤ m) where
  pub area_most : n * bar.thickness ≤ m * 50
  area_most =
      let thin : bar.thickness ≤ 50 = omega (arith, ap (λ b. b.thickness) bar-is, w.thickness.1) in
      let within : n ≤ m = omega arith in
      mul-le-mul within thin

  pub force_most : (f : ℕ) → f ≡ tensile_stress bar.steel → f * (n * bar.thickness) ≤ 550 * (m * 50)
  force_most f f-is = let weak : f ≤ 550 = omega (arith, tensile_most bar.steel) in mul-le-mul weak area_most

  pub force_is : (f : ℕ) → f ≡ tensile_stress bar.steel → f * (n * bar.thickness) ≡ tensile_stress d.bar.steel * (l * d.bar.thickness)
  force_is f f-is =
      ap (λ k. k * (n * bar.thickness)) f-is ∙ ap (λ k. tensile_stress bar.steel * (k * bar.thickness)) n-is
      ∙ ap (λ b. tensile_stress b.steel * (l * b.thickness)) bar-is
