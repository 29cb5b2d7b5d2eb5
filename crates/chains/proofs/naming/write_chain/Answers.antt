use Rattle.std.proofs.Common.{◌≡◌, ◌+◌, length, reverse, set, sym, ap, ◌∙◌, subst, ⊎_elim, arith}
use Rattle.std.proofs.lemmas.List.{length-set, set_past}
use Rattle.chains.specs.Search.{led}
use Rattle.chains.specs.Slips.{filed}
use Rattle.chains.proofs.Led.{led_short}
use Rattle.chains.proofs.Paths.{Written, written_more, filed_all}
use Rattle.chains.proofs.naming.write_chain.Goals as goal
use Rattle.chains.proofs.naming.write_chain.Goals.{In-None}

pub loop-place-preserved : goal.loop-place-preserved
loop-place-preserved c =
    let so = c.loop-place.invariant in
    let took = c.in-Some.ensures.steps in
    let it = c.loop-place.place-iterator.b in
    let left = c.next.new.self.b in
    let rest = led it.steps.now it.at in
    let more = led left.steps.now left.at in
    let long : length rest ≡ length more + 1 = omega (arith, ap length took.1) in
    let place : c.in-Some.place ≡ length more = omega (arith, took) in
    record {
      can_next = so.can_next;
      is_finite = so.is_finite;
      count = so.count;
      start = omega (arith, took);
      end = omega (arith, took);
      written =
          subst (λ k. Written (led c.args.chain.steps.now c.args.chain.at) c.args.slip.now more (set c.loop-place.slip k c.in-Some.number)) (sym place)
          (written_more (led c.args.chain.steps.now c.args.chain.at) c.args.slip.now rest more c.loop-place.slip c.in-Some.number took.1 (omega (arith, led_short it.steps.now it.at)) so.written);
      long = length-set _ _ _ ∙ so.long;
    }

written_all : (c : In-None) → set c.loop-place.slip c.count-count.result 0 ≡ filed (reverse (led c.args.chain.steps.now c.args.chain.at)) c.args.slip.now
written_all c =
    let so = c.loop-place.invariant in
    let it = c.loop-place.place-iterator.b in
    let none : length (led it.steps.now it.at) ≡ 0 =
    ⊎_elim (λ x. omega (arith, so.end, x.1.1.0)) (λ x. ap length x.1.0) c.in-None.ensures.steps in
    ap (λ k. set c.loop-place.slip k 0) so.count
    ∙ filed_all (led c.args.chain.steps.now c.args.chain.at) c.args.slip.now (led it.steps.now it.at) c.loop-place.slip none (omega (arith, led_short c.args.chain.steps.now c.args.chain.at, c.told-slip)) so.written

pub returns-then-count-lt32 : goal.returns-then-count-lt32
returns-then-count-lt32 c = written_all (goal.at.returns-then-count-lt32 c).In-None

pub returns-else-count-lt32 : goal.returns-else-count-lt32
returns-else-count-lt32 c =
    let so = c.loop-place.invariant in
    sym (set_past c.loop-place.slip c.count-count.result 0 (omega (arith, so.long))) ∙ written_all (goal.at.returns-else-count-lt32 c).In-None
