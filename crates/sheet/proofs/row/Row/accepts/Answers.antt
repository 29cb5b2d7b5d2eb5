use Rattle.std.proofs.Common.{ℕ, sym, ap, ◌∙◌, rules}
use Rattle.sheet.specs.Law.{crowding}
use Rattle.sheet.specs.Rows.{holes_of}
use Rattle.sheet.proofs.Shift.{none_crowds, first_crowds}
use Rattle.sheet.proofs.row.Row.accepts.Goals as goal

pub returns-in-Some : goal.returns-in-Some
returns-in-Some c =
    let h = c.args.hole.now in
    let hs = holes_of c.args.self.now in
    let first = first_crowds c.diameter.result h hs c.in-Some.place (sym c.in-Some.is ∙ c.crowding_place.ensures) in
    let crowds = sym (ap (λ (d : ℕ). crowding d h hs 1) c.diameter.ensures) ∙ first in
    search (rules, crowds)

pub returns-in-None : goal.returns-in-None
returns-in-None c =
    let h = c.args.hole.now in
    let hs = holes_of c.args.self.now in
    let none = none_crowds c.diameter.result h hs (sym c.in-None.is ∙ c.crowding_place.ensures) in
    let crowds = sym (ap (λ (d : ℕ). crowding d h hs 1) c.diameter.ensures) ∙ none in
    search (rules, crowds)
