use Rattle.std.proofs.Common.{List, ap, ◌∙◌, subst}
use Rattle.parts.specs.declared.hole.Hole.{Hole}
use Rattle.sheet.specs.Details.{details}
use Rattle.sheet.proofs.Joints.{joint_sound}
use Rattle.chains.specs.declared.search.Step.{Step}
use Rattle.chains.specs.Search.{net_at, Slimmest}
use Rattle.chains.proofs.Ends.{Found, found_all}
use Rattle.chains.proofs.Facts.{ready}
use Rattle.chains.proofs.Nets.{net_is}
use Rattle.chains.proofs.net_width.Goals as goal

pub returns : goal.returns
returns c =
    let d = details c.args.joint in
    let steps = c.steps.result.items in
    let end = c.narrowest_end.result.0 in
    let slimmest = subst (λ (s : List Step). Slimmest s end) c.deref.ensures.0 c.narrowest_end.ensures.slimmest in
    let f : Found d.bar.width d.holes steps end =
    subst (λ w. Found w d.holes steps end) c.from.ensures.0
    (subst (λ (hs : List Hole). Found c.from.result.width hs steps end) c.from.ensures.1
    (found_all c.from.result.width c.from.result.holes.now steps c.steps.ensures.full c.steps.ensures.all end slimmest)) in
    c.narrowest_end.ensures.net ∙ ap (λ (s : List Step). net_at s end) c.deref.ensures.0 ∙ f.wide
    ∙ net_is d.bar.width d.holes (ready d (joint_sound c.args.joint)) f.chain f.least
