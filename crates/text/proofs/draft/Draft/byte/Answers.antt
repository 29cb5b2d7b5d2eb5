use Rattle.std.proofs.Common.{ap}
use Rattle.std.proofs.lemmas.Result.{on_err_weaker}
use Rattle.text.proofs.Capacity.{capacity}
use Rattle.text.proofs.Grown.{pushed}
use Rattle.text.specs.Drafts.{written}
use Rattle.text.proofs.draft.Draft.byte.Goals as goal

pub returns : goal.returns
returns c =
    let push = c.try_push in
    let same = on_err_weaker push.result (ap (λ v. v.items)) push.ensures.err in
    record { is = pushed push.result capacity (written c.args.self.now) _ c.args.b push.ensures.variant.0 push.ensures.ok same push.ensures.full }
