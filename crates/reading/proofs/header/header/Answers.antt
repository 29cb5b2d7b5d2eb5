use Rattle.std.proofs.Common.{◌≡◌, ◌≤◌, refl, inr, arith}
use Rattle.std.specs.Range.{range_inclusive_start, range_inclusive_end}
use Rattle.std.proofs.lemmas.Grind.{common_steps}
use Rattle.std.proofs.lemmas.Bool.Decides.{Decides-eqb}
use Rattle.std.proofs.lemmas.Option.{MatchOption-at_some}
use Rattle.std.proofs.lemmas.Slice.Eq.{slice_eq-Decides}
use Rattle.reading.proofs.header.header.Goals as goal
use Rattle.reading.proofs.header.header.Goals.{then-ne-via-then-ne, then-ne-via-else-ne+then-not-contains}

pub returns-then-ne : goal.returns-then-ne
returns-then-ne c =
    let f = MatchOption-at_some _ _ _ c.in_ok-count.ensures.ok_part c.header_fields.ensures in
    let other : c.in_ok-count.word.now ≡ c.args.name.now → range_inclusive_start c.args.counts ≤ c.in_ok-count.count → c.in_ok-count.count ≤ range_inclusive_end c.args.counts → ⊥ =
    λ e low high. elim c.then-ne.branch [
      | then-ne-via-then-ne w ↦ let same = (slice_eq-Decides Decides-eqb c.in_ok-count.word.now c.args.name.now _ refl).1 e in grind (arith, common_steps, same, w.if-ne.ensures)
      | then-ne-via-else-ne+then-not-contains w ↦ grind (arith, common_steps)
    ] in
    rw c.on-then-ne.ensures (omega arith, inr (refl, (record { count = c.in_ok-count.count; name = c.in_ok-count.word.now; rest = _; begins = f.0.begins; short = f.1 }, other)))
