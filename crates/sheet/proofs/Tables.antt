-- A table of refusals gives its first line whose condition holds.
use Rattle.std.proofs.Common.{Bool, true, false, cond, List, [], ◌∷◌, Some, None, Option, refl, ap}
use Rattle.parts.specs.declared.fault.Fault.{Fault}
use Rattle.sheet.specs.Account.{Line, first, Foremost, FirstTells}

later : (f : Fault) (ls : List Line) (o : Option Fault) → Foremost ls o → Foremost ((f, false) ∷ ls) o
later f ls None h = (refl, h)
later f ls (Some g) h = ((f, false) ∷ h.0, h.1, ap (λ l. (f, false) ∷ l) h.2, (refl, h.3))

here : (f : Fault) (b : Bool) (ls : List Line) → Foremost ls (first ls) → Foremost ((f, b) ∷ ls) (cond b (Some f) (first ls))
here f true ls h = ([], ls, refl, tt)
here f false ls h = later f ls (first ls) h

pub tells : FirstTells
tells [] = tt
tells (l ∷ ls) = here l.0 l.1 ls (tells ls)
