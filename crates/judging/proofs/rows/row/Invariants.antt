use Rattle.std.proofs.Common.{◌≡◌, length, drop, ◌+ℤ◌}
use Rattle.judging.specs.Factors.{weighted_from, weighted}
use Rattle.judging.proofs.Factors.{Room}
use Rattle.judging.proofs.rows.row.Given as goal

abbrev pub invariant-loop-factor : goal.invariant-loop-factor
invariant-loop-factor l =
    let place = length l.yielded in
    record {
      can_next : (goal.iterator-loop-factor).can_next l.factor-iterator;
      is_finite : (goal.iterator-loop-factor).is_finite l.factor-iterator;
      factors : l.factor-iterator.a.rest.now ≡ drop place l.factors;
      loads : l.factor-iterator.b.rest.now ≡ drop place l.loads;
      room : Room place l.sum.0;
      sum : l.sum.0 +ℤ weighted_from place l.factor-iterator.a.rest.now l.loads ≡ weighted l.factors l.loads;
    }
