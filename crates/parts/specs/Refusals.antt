-- The number of each refusal of a sheet, and how it is told.
use Rattle.std.specs.Prelude.{ℕ, List, [], ◌++◌, codes, decimal}
use Rattle.parts.specs.declared.fault.Fault.{Fault}
use Rattle.parts.specs.declared.fault.Fault.TheVariants.{OutOfRange, UnknownSteel, UnknownSize, HolesStand, NoBarOrBolt, Full, DiameterOutside, CentreOutside, TooClose, NoHoleThere, UnknownLoad, LoadOutOfRange, NoHoles}

abbrev pub refusal_number : Fault → ℕ
refusal_number OutOfRange = 1
refusal_number UnknownSteel = 2
refusal_number UnknownSize = 2
refusal_number HolesStand = 3
refusal_number NoBarOrBolt = 4
refusal_number Full = 5
refusal_number DiameterOutside = 6
refusal_number CentreOutside = 7
refusal_number (TooClose hole) = 8
refusal_number NoHoleThere = 9
refusal_number UnknownLoad = 10
refusal_number LoadOutOfRange = 11
refusal_number NoHoles = 12

-- what a refusal tells beside its number
abbrev pub told_hole : Fault → List ℕ
told_hole (TooClose hole) = codes ", too close to hole " ++ decimal hole
told_hole fault = []

abbrev pub refusal_text : Fault → List ℕ
refusal_text fault = codes "refused " ++ decimal (refusal_number fault) ++ told_hole fault
