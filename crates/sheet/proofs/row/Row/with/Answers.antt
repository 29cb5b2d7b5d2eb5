use Rattle.std.proofs.Common.{◌<◌, ◌≤◌, length, sym, refl, ap, ◌∙◌, insert, arith}
use Rattle.std.proofs.lemmas.List.{length-take-le}
use Rattle.sheet.specs.Rows.{holes_of}
use Rattle.sheet.proofs.Shift.{add_is, rotated, row_after}
use Rattle.sheet.proofs.row.Row.with.Goals as goal

pub returns : goal.returns
returns c =
    let r = c.args.self in
    let p = c.place_of-place.result in
    let h = c.args.hole in
    let long = length-take-le r.count r.holes (omega (arith, r.long, r.few)) in
    let within : r.count < length r.holes = omega (arith, r.long, long, c.requires) in
    let early : p ≤ r.count = omega (arith, long, c.place_of-place.ensures.within) in
    row_after r.holes r.count p h within early _ (rotated r.holes r.count p h within early _ _ refl c.rotate_right.ensures.after)
    ∙ ap (λ i. insert (holes_of r) i h) c.place_of-place.ensures.value ∙ sym (add_is h (holes_of r))
