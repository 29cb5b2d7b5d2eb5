use Rattle.std.proofs.Common.{◌≡◌, ◌+◌, length, get_or, drop, pos, ◌+ℤ◌, ◌*ℤ◌, sym, ap, ◌∙◌, subst, arith, w32, w64, SFits, rules}
use Rattle.std.proofs.lemmas.Int.{ints, to_z-of_z}
use Rattle.std.proofs.lemmas.List.{length_push}
use Rattle.chains.proofs.Fronts.{front}
use Rattle.judging.specs.Factors.{Small, weighted_from}
use Rattle.judging.proofs.Factors.{room_more, sum_more}
use Rattle.judging.proofs.rows.row.Goals as goal

pub loop-factor-preserved : goal.loop-factor-preserved
loop-factor-preserved c =
    let so = c.loop-factor.invariant in
    let took = c.in-Some.ensures.steps in
    let place = length c.loop-factor.yielded in
    let it = c.loop-factor.factor-iterator in
    let next = c.next.new.self in
    let f = front c.args.factors.now place c.in-Some.factor.now it.a.rest.now next.a.rest.now so.factors took.0 in
    let l = front c.args.loads.now place c.in-Some.load.now it.b.rest.now next.b.rest.now so.loads took.1 in
    let long = length_push c.loop-factor.yielded (c.in-Some.factor, c.in-Some.load) in
    let small : Small c.in-Some.factor.now = subst Small (sym (f.is (pos 0))) (c.requires place (pos 0) f.within) in
    let wide : SFits w64 c.in-Some.factor.now = omega (arith, ints, small.low, small.high) in
    let fits : SFits w32 (get_or c.args.loads.now place (pos 0)) = search rules in
    let short : SFits w32 c.in-Some.load.now = subst (SFits w32) (sym (l.is (pos 0))) fits in
    let value : c.part.result.0 ≡ c.in-Some.factor.now *ℤ c.in-Some.load.now = simp to_z-of_z at c.part.ensures.value in
    let xs = c.args.loads.now in
    let first : weighted_from place it.a.rest.now xs ≡ c.part.result.0 +ℤ weighted_from (place + 1) next.a.rest.now xs =
    ap (λ fs. weighted_from place fs xs) took.0
    ∙ ap (λ p. p +ℤ weighted_from (place + 1) next.a.rest.now xs) (ap (λ x. c.in-Some.factor.now *ℤ x) (sym (l.is (pos 0))) ∙ sym value) in
    record {
      can_next = so.can_next;
      is_finite = so.is_finite;
      factors = f.left ∙ ap (λ k. drop k c.args.factors.now) (sym long);
      loads = l.left ∙ ap (λ k. drop k c.args.loads.now) (sym long);
      room = room_more place _ c.loop-factor.sum.0 c.part.result.0 _ long c.add-sum.ensures so.room c.part.ensures.low_bound c.part.ensures.high_bound;
      sum = ap (λ k. c.add-sum.result.0 +ℤ weighted_from k next.a.rest.now xs) long ∙ sum_more c.loop-factor.sum.0 c.part.result.0 _ _ _ _ c.add-sum.ensures first so.sum;
    }
