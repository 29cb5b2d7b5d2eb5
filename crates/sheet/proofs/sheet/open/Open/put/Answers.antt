use Rattle.std.proofs.Common.{sym, ap, ◌∙◌, subst}
use Rattle.sheet.specs.Calls.{hole_at}
use Rattle.sheet.specs.Law.{lawful}
use Rattle.sheet.specs.Numbering.{Joins}
use Rattle.sheet.specs.Rows.{holes_of}
use Rattle.sheet.proofs.Holes.{law_accepted, law_pairs}
use Rattle.sheet.proofs.Numbers.{joins}
use Rattle.sheet.proofs.sheet.open.Open.put.Goals as goal

pub with-requires : goal.with-requires
with-requires c = (law_accepted _ _ _ _ c.accepts.ensures c.in_ok-accepts.was c.args.self.now.sheet.law).0

pub invariant_of-self-clause-law : goal.invariant_of-self-clause-law
invariant_of-self-clause-law c =
    let s = c.args.self.now.sheet in
    ap (lawful s.bar s.bolt) c.with.ensures ∙ (law_accepted _ _ _ _ c.accepts.ensures c.in_ok-accepts.was s.law).1

pub returns-clause-joins : goal.returns-clause-joins
returns-clause-joins c = λ _.
    let s = c.args.self.now.sheet in
    let h = hole_at c.args.x c.args.y c.args.diameter in
    let kept = law_accepted _ _ _ _ c.accepts.ensures c.in_ok-accepts.was s.law in
    subst (Joins h (holes_of s.row)) (sym c.with.ensures) (joins h (holes_of s.row) (law_pairs s.bar s.bolt _ kept.1))
