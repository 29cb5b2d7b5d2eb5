-- The seven loads: dead, live, roof live, snow, rain, wind, earthquake.
use Rattle.std.specs.Prelude.{ℕ, cond, Some, None, Option, ◌==◌}
use Rattle.parts.specs.declared.load.LoadKind.{LoadKind}
use Rattle.parts.specs.declared.load.LoadKind.TheVariants.{Dead, Live, RoofLive, Snow, Rain, Wind, Earthquake}

abbrev pub kind_number : LoadKind → ℕ
kind_number Dead = 0
kind_number Live = 1
kind_number RoofLive = 2
kind_number Snow = 3
kind_number Rain = 4
kind_number Wind = 5
kind_number Earthquake = 6

-- the codes of the letters D, L, A, S, R, W and E
abbrev pub letter_of : LoadKind → ℕ
letter_of Dead = 68
letter_of Live = 76
letter_of RoofLive = 65
letter_of Snow = 83
letter_of Rain = 82
letter_of Wind = 87
letter_of Earthquake = 69

-- the load of a letter
abbrev pub kind_of : ℕ → Option LoadKind
kind_of c =
    cond (c == 68) (Some Dead) (cond (c == 76) (Some Live) (cond (c == 65) (Some RoofLive) (cond (c == 83) (Some Snow)
    (cond (c == 82) (Some Rain) (cond (c == 87) (Some Wind) (cond (c == 69) (Some Earthquake) None))))))
