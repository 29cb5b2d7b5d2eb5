use Rattle.std.proofs.Common.{◌≡◌, ℕ, suc, ◌+◌, ◌<◌, ◌≤◌, length, List, drop, None, Some, pos, ◌≤ℤ◌, ◌+ℤ◌, sym, ap, ◌∙◌, refl, subst, inl, ⊎_elim, arith, rules, length-drop}
use borrow.Author.Differences.{ints}
use Rattle.std.specs.List.{slice_get}
use Rattle.std.specs.Ordering.{ord_min}
use Rattle.std.proofs.lemmas.List.Sorted.{answers_always}
use Rattle.std.proofs.lemmas.Option.{slice_get_within, get_or_from_slice_get}
use Rattle.sheet.specs.Details.{no_hole}
use Rattle.parts.specs.declared.hole.Hole.{Hole}
use Rattle.chains.specs.Chains.{the}
use Rattle.chains.specs.Search.{no_step, Picks}
use Rattle.chains.proofs.Basics.{term_most}
use Rattle.chains.proofs.Endings.{full_more}
use Rattle.chains.proofs.Fronts.{Front, front}
use Rattle.chains.proofs.Nets.{told_bounds}
use Rattle.chains.proofs.Picking.{by_net, alone, keeps, chooses}
use Rattle.chains.proofs.holed_bar.HoledBar.step_to.Goals as goal
use Rattle.chains.proofs.holed_bar.HoledBar.step_to.Goals.{In-Some, After-min_by_key-best}

-- the hole behind those of the steps
next_is : (hs : List Hole) (i : ℕ) (hole : Hole) → slice_get hs i ≡ Some hole → (i < length hs) × (the hs (suc i) ≡ hole)
next_is hs i hole next = (slice_get_within hs i hole next, get_or_from_slice_get hs i hole no_hole next)

-- one turn: the pair at the place, and the choice so far
record Turn (c : In-Some) : Type 0 where
  low : Front c.args.self.now.holes.now c.in-Some.place c.in-Some.low.now c.next.new.self.iter.a.rest.now
  step : Front c.args.steps.now c.in-Some.place c.in-Some.step.now c.next.new.self.iter.b.rest.now
  past : c.next.new.self.count ≡ c.in-Some.place + 1
  within : c.next.new.self.count ≤ length c.args.steps.now
  holes : c.next.new.self.iter.a.rest.now ≡ drop c.next.new.self.count c.args.self.now.holes.now
  steps : c.next.new.self.iter.b.rest.now ≡ drop c.next.new.self.count c.args.steps.now
  picks : Picks c.args.self.now.width c.args.self.now.holes.now c.args.steps.now (suc (length c.args.steps.now)) c.in-Some.place c.loop-place.best

turned : (c : In-Some) → Turn c
turned c =
    let hs = c.args.self.now.holes.now in
    let steps = c.args.steps.now in
    let place = c.in-Some.place in
    let it = c.loop-place.place-iterator in
    let next = c.next.new.self in
    let so = c.loop-place.invariant in
    let took = c.in-Some.ensures.steps in
    let low = front hs place c.in-Some.low.now it.iter.a.rest.now next.iter.a.rest.now (so.holes ∙ ap (λ k. drop k hs) (sym took.1)) took.0.0 in
    let step = front steps place c.in-Some.step.now it.iter.b.rest.now next.iter.b.rest.now (so.steps ∙ ap (λ k. drop k steps) (sym took.1)) took.0.1 in
    let past : next.count ≡ place + 1 = omega (arith, took) in
    record {
      low = low;
      step = step;
      past = past;
      within = omega (arith, step.within);
      holes = low.left ∙ ap (λ k. drop k hs) (sym past);
      steps = step.left ∙ ap (λ k. drop k steps) (sym past);
      picks = subst (λ k. Picks c.args.self.now.width hs steps (suc (length steps)) k c.loop-place.best) (sym took.1) so.picks;
    }

chosen : (c : After-min_by_key-best) → c.min_by_key-best.result ≡ ord_min by_net c.loop-place.best record { net = c.sub-then-low-hole.result; before = Some c.in-Some.place }
chosen c = c.min_by_key-best.ensures (λ s. s.net) (answers_always _ _ _ (λ f a r g h. search rules))

pub loop-place-init : goal.loop-place-init
loop-place-init c =
    let hs = c.args.self.now.holes.now in
    let began = c.into_iter-place-iterator.ensures.into_iter_gives in
    let first : c.into_iter-place-iterator.result.count ≡ 0 = ap (λ s. s.count) began ∙ c.enumerate-place-items.ensures.count in
    let holes : c.into_iter-place-iterator.result.iter.a.rest.now ≡ hs = search rules in
    let steps : c.into_iter-place-iterator.result.iter.b.rest.now ≡ c.args.steps.now = search rules in
    let next = next_is hs (length c.args.steps.now) c.args.hole.now c.requires.next in
    let cuts = c.cut_of-cut.ensures in let whole = c.sub.ensures in
    record {
      can_next = ((tt, tt), tt, inl (omega (arith, first, ap length holes, c.args.self.now.ready.few)));
      is_finite = tt;
      within = omega (arith, first);
      holes = holes ∙ ap (λ k. drop k hs) (sym first);
      steps = steps ∙ ap (λ k. drop k c.args.steps.now) (sym first);
      picks = subst (λ k. Picks c.args.self.now.width hs c.args.steps.now (suc (length c.args.steps.now)) k record { net = c.sub.result; before = None }) (sym first)
          (alone c.args.self.now.width hs c.args.steps.now (suc (length c.args.steps.now)) _ refl (search rules));
    }

-- the bounds of the two holes, and of the width that the low one's step tells
record Bounds (c : In-Some) : Type 0 where
  low_far : c.in-Some.low.now.x ≤ 1200
  high_far : c.args.hole.now.x ≤ 1200
  small : c.args.hole.now.diameter ≤ 32
  low_bound : pos 0 ≤ℤ (c.in-Some.step.now.net.0 +ℤ pos 1088000)
  high_bound : c.in-Some.step.now.net.0 ≤ℤ pos 1000000

bounds : (c : In-Some) → Bounds c
bounds c =
    let ok = c.args.self.now.ready in
    let hs = c.args.self.now.holes.now in
    let i = length c.args.steps.now in
    let next = next_is hs i c.args.hole.now c.requires.next in
    let turn = turned c in
    let low = turn.low in
    let step = turn.step in
    let told = told_bounds c.args.self.now.width hs ok c.args.steps.now c.in-Some.place (c.requires.full c.in-Some.place step.within) in
    let same = ap (λ s. s.net.0) (step.is no_step) in
    record {
      low_far = omega (arith, ok.far c.in-Some.place low.within, ap (λ h. h.x) (low.is no_hole));
      high_far = omega (arith, ok.far i next.0, ap (λ h. h.x) next.1);
      small = omega (arith, ok.small i next.0, ap (λ h. h.diameter) next.1);
      low_bound = subst (λ w. pos 0 ≤ℤ (w +ℤ pos 1088000)) (sym same) told.0;
      high_bound = subst (λ w. w ≤ℤ pos 1000000) (sym same) told.1;
    }

pub invariant_of-pair : goal.invariant_of-pair
invariant_of-pair c =
    let b = bounds (goal.at.invariant_of-pair c).In-Some in
    record { low_far = b.low_far; high_far = b.high_far; rising = c.if-low-hole.true }

pub add-requires : goal.add-requires
add-requires c =
    let b = bounds (goal.at.add-requires c).In-Some in
    let most = term_most c.in-Some.low.now c.args.hole.now b.low_far b.high_far in
    omega (arith, ints)

pub sub-requires-then-low-hole : goal.sub-requires-then-low-hole
sub-requires-then-low-hole c =
    let b = bounds (goal.at.sub-requires-then-low-hole c).In-Some in
    let most = term_most c.in-Some.low.now c.args.hole.now b.low_far b.high_far in
    omega (arith, ints)

pub loop-place-preserved-then-low-hole : goal.loop-place-preserved-then-low-hole
loop-place-preserved-then-low-hole c =
    let width = c.args.self.now.width in
    let hs = c.args.self.now.holes.now in
    let steps = c.args.steps.now in
    let n = suc (length steps) in
    let place = c.in-Some.place in
    let turn = turned (goal.at.loop-place-preserved-then-low-hole c).In-Some in
    let here = turn.low.is no_hole in
    let told = turn.step.is no_step in
    let top = (next_is hs (length steps) c.args.hole.now c.requires.next).1 in
    record {
      can_next = c.in-Some.ensures.goes.keeps;
      is_finite = c.loop-place.invariant.is_finite;
      within = turn.within;
      holes = turn.holes;
      steps = turn.steps;
      picks = subst (λ k. Picks width hs steps n k c.min_by_key-best.result) (sym turn.past)
          (chooses width hs steps n place c.loop-place.best turn.picks record { net = c.sub-then-low-hole.result; before = Some place }
          (omega (arith, ap (λ h. h.y) here, ap (λ h. h.y) top, c.if-low-hole.true)) (cc) refl _ (chosen c));
    }

pub loop-place-preserved : goal.loop-place-preserved
loop-place-preserved c =
    let width = c.args.self.now.width in
    let hs = c.args.self.now.holes.now in
    let steps = c.args.steps.now in
    let n = suc (length steps) in
    let turn = turned (goal.at.loop-place-preserved c).In-Some in
    let here = turn.low.is no_hole in
    let top = (next_is hs (length steps) c.args.hole.now c.requires.next).1 in
    record {
      can_next = c.in-Some.ensures.goes.keeps;
      is_finite = c.loop-place.invariant.is_finite;
      within = turn.within;
      holes = turn.holes;
      steps = turn.steps;
      picks = subst (λ k. Picks width hs steps n k c.loop-place.best) (sym turn.past)
          (keeps width hs steps n c.in-Some.place c.loop-place.best turn.picks (λ may. absurd (omega (arith, ap (λ h. h.y) here, ap (λ h. h.y) top))));
    }

pub returns : goal.returns
returns c =
    let hs = c.args.self.now.holes.now in
    let steps = c.args.steps.now in
    let next = next_is hs (length steps) c.args.hole.now c.requires.next in
    let so = c.loop-place.invariant in
    let all : c.loop-place.place-iterator.count ≡ length steps =
    ⊎_elim
    (λ x. omega (arith, so.within, next.0, ap length so.holes, length-drop c.loop-place.place-iterator.count hs, x.1.0))
    (λ x. omega (arith, so.within, ap length so.steps, length-drop c.loop-place.place-iterator.count steps, x.1.0))
    c.in-None.ensures.steps.0 in
    full_more c.args.self.now.width hs steps c.args.self.now.ready c.requires.full c.loop-place.best next.0
    (subst (λ k. Picks c.args.self.now.width hs steps (suc (length steps)) k c.loop-place.best) all so.picks)
