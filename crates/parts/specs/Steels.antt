-- The steels: number, name on a page, yield and tensile stress in MPa.
use Rattle.std.specs.Prelude.{ℕ, cond, List, Some, None, codes, Option, ◌==◌}
use Rattle.parts.specs.declared.steel.Steel.{Steel}
use Rattle.parts.specs.declared.steel.Steel.TheVariants.{A36, A529, A572Grade42, A572Grade50, A572Grade60, A572Grade65}

abbrev pub steel_number : Steel → ℕ
steel_number A36 = 1
steel_number A529 = 2
steel_number A572Grade42 = 3
steel_number A572Grade50 = 4
steel_number A572Grade60 = 5
steel_number A572Grade65 = 6

abbrev pub steel_name : Steel → List ℕ
steel_name A36 = codes "A36"
steel_name A529 = codes "A529"
steel_name A572Grade42 = codes "A572-42"
steel_name A572Grade50 = codes "A572-50"
steel_name A572Grade60 = codes "A572-60"
steel_name A572Grade65 = codes "A572-65"

abbrev pub yield_stress : Steel → ℕ
yield_stress A36 = 250
yield_stress A529 = 290
yield_stress A572Grade42 = 290
yield_stress A572Grade50 = 345
yield_stress A572Grade60 = 415
yield_stress A572Grade65 = 450

abbrev pub tensile_stress : Steel → ℕ
tensile_stress A36 = 400
tensile_stress A529 = 415
tensile_stress A572Grade42 = 415
tensile_stress A572Grade50 = 450
tensile_stress A572Grade60 = 515
tensile_stress A572Grade65 = 550

-- the steel of a number
abbrev pub steel_of : ℕ → Option Steel
steel_of n =
    cond (n == 1) (Some A36) (cond (n == 2) (Some A529) (cond (n == 3) (Some A572Grade42) (cond (n == 4) (Some A572Grade50)
    (cond (n == 5) (Some A572Grade60) (cond (n == 6) (Some A572Grade65) None)))))
