use Rattle.std.proofs.Common.{◌≡◌, Some, position, sym, ap, ◌∙◌, subst, rules}
use Rattle.parts.specs.Holes.{centred}
use Rattle.sheet.specs.Law.{lawful}
use Rattle.sheet.specs.Numbering.{Leaves}
use Rattle.sheet.specs.Rows.{holes_of}
use Rattle.sheet.proofs.Holes.{law_without, law_pairs}
use Rattle.sheet.proofs.Numbers.{leaves}
use Rattle.sheet.proofs.Shift.{at_centre}
use Rattle.sheet.proofs.sheet.open.Open.take.Goals as goal

pub invariant_of-self-clause-law : goal.invariant_of-self-clause-law
invariant_of-self-clause-law c =
    let s = c.args.self.now.sheet in
    let at : position (centred c.args.x c.args.y) (holes_of s.row) ≡ Some c.in_ok-place.place = search rules in
    let row = c.without.ensures ∙ sym (at_centre c.args.x c.args.y (holes_of s.row) c.in_ok-place.place at).2 in
    ap (lawful s.bar s.bolt) row ∙ law_without s.bar s.bolt c.args.x c.args.y _ s.law

pub returns-clause-leaves : goal.returns-clause-leaves
returns-clause-leaves c = λ _.
    let s = c.args.self.now.sheet in
    let hs = holes_of s.row in
    let at : position (centred c.args.x c.args.y) hs ≡ Some c.in_ok-place.place = search rules in
    let found = at_centre c.args.x c.args.y hs c.in_ok-place.place at in
    subst (Leaves c.args.x c.args.y hs) (sym (c.without.ensures ∙ sym found.2)) (leaves c.args.x c.args.y hs (law_pairs s.bar s.bolt hs s.law) found.1)
