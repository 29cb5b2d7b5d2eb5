-- The norm's four limit states, with their strengths.
use Rattle.std.specs.Prelude.{List, [], ◌∷◌}
use Rattle.sheet.specs.Details.{Details}
use Rattle.limits.specs.declared.rated.Rated.{Rated}
use Rattle.limits.specs.Rating.{rating}
use Rattle.limits.specs.Strengths.{gross_yielding, net_rupture, bolt_shear, bearing}

-- by their numbers: gross yielding, net rupture, bolt shear, bearing
abbrev pub norm_ratings : Details → List Rated
norm_ratings d = rating 1 (gross_yielding d) ∷ rating 2 (net_rupture d) ∷ rating 3 (bolt_shear d) ∷ rating 4 (bearing d) ∷ []
