use Rattle.std.proofs.Common.{◌≡◌, ◌≤◌, List, reverse, length, Some, sym, ap, ◌∙◌, subst, arith}
use Rattle.parts.specs.declared.hole.Hole.{Hole}
use Rattle.sheet.specs.Details.{details}
use Rattle.sheet.proofs.Joints.{joint_sound}
use Rattle.chains.specs.declared.search.Step.{Step}
use Rattle.chains.specs.Search.{net_at, Falling, led, Slimmest}
use Rattle.chains.specs.Slips.{filed}
use Rattle.chains.proofs.Endings.{full_falls}
use Rattle.chains.proofs.Ends.{Found, found_all, least_unique}
use Rattle.chains.proofs.Facts.{ready, chain_short}
use Rattle.chains.proofs.Nets.{net_is}
use Rattle.chains.proofs.Paths.{slip_reads}
use Rattle.chains.proofs.Roundings.{rounded}
use Rattle.chains.proofs.least_chain.Goals as goal
use Rattle.chains.proofs.least_chain.Goals.{After-narrowest_end-end}

pub invariant_of-chain : goal.invariant_of-chain
invariant_of-chain c =
    let all = ap length c.deref-2.ensures.0 in
    record {
      few = omega (arith, c.steps-steps.ensures.all, c.from.result.ready.few);
      within = omega (arith, ap length c.deref.ensures.0, c.narrowest_end-end.ensures.slimmest.below);
      falling = subst Falling (sym c.deref-2.ensures.0) (full_falls c.from.result.width c.from.result.holes.now c.steps-steps.result.items c.steps-steps.ensures.full);
    }

found : (c : After-narrowest_end-end) → Found (details c.args.joint).bar.width (details c.args.joint).holes c.steps-steps.result.items c.narrowest_end-end.result.0
found c =
    let steps = c.steps-steps.result.items in
    let end = c.narrowest_end-end.result.0 in
    let slimmest = subst (λ (s : List Step). Slimmest s end) c.deref.ensures.0 c.narrowest_end-end.ensures.slimmest in
    subst (λ w. Found w (details c.args.joint).holes steps end) c.from.ensures.0
    (subst (λ (hs : List Hole). Found c.from.result.width hs steps end) c.from.ensures.1
    (found_all c.from.result.width c.from.result.holes.now steps c.steps-steps.ensures.full c.steps-steps.ensures.all end slimmest))

pub returns : goal.returns
returns c =
    let f = found (goal.at.returns c).After-narrowest_end-end in
    let d = details c.args.joint in
    let s = joint_sound c.args.joint in
    let end = c.narrowest_end-end.result.0 in
    let slip = c.args.slip.now in
    let wide = c.narrowest_end-end.ensures.net ∙ ap (λ (s : List Step). net_at s end) c.deref.ensures.0 ∙ f.wide in
    let on : c.write_chain.new.slip ≡ filed (reverse f.chain) slip =
    c.write_chain.ensures ∙ ap (λ ns. filed (reverse ns) slip) (ap (λ (s : List Step). led s (Some end)) c.deref-2.ensures.0 ∙ f.leads) in
    let fits : length f.chain ≤ length slip = omega (arith, chain_short d s f.chain f.least.chain, c.told-slip) in
    record {
      named = record { chain = f.chain; least = f.least; wide = wide; slip = on; reads = slip_reads d.holes f.chain slip _ f.least.chain fits on };
      net = wide ∙ net_is d.bar.width d.holes (ready d s) f.chain f.least;
      rounded = rounded d.bar.width d.holes (ready d s) f.chain f.least _ wide;
      once = least_unique d.bar.width d.holes;
    }
