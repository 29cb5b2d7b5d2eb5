-- The bolt sizes: number, name on a page, diameter in mm and area in mm².
use Rattle.std.specs.Prelude.{ℕ, cond, List, Some, None, codes, Option, ◌==◌}
use Rattle.parts.specs.declared.bolt.Size.{Size}
use Rattle.parts.specs.declared.bolt.Size.TheVariants.{M16, M20, M22, M24}

abbrev pub size_number : Size → ℕ
size_number M16 = 1
size_number M20 = 2
size_number M22 = 3
size_number M24 = 4

abbrev pub size_name : Size → List ℕ
size_name M16 = codes "M16"
size_name M20 = codes "M20"
size_name M22 = codes "M22"
size_name M24 = codes "M24"

abbrev pub diameter_of : Size → ℕ
diameter_of M16 = 16
diameter_of M20 = 20
diameter_of M22 = 22
diameter_of M24 = 24

abbrev pub area_of : Size → ℕ
area_of M16 = 201
area_of M20 = 314
area_of M22 = 380
area_of M24 = 452

-- the size of a number
abbrev pub size_of : ℕ → Option Size
size_of n = cond (n == 1) (Some M16) (cond (n == 2) (Some M20) (cond (n == 3) (Some M22) (cond (n == 4) (Some M24) None)))
