use Rattle.std.proofs.Common.{◌≡◌, ap, ◌∙◌, subst}
use Rattle.sheet.specs.Details.{details}
use Rattle.judging.specs.Rows.{rows_of}
use Rattle.judging.specs.Weighing.{Weighed}
use Rattle.judging.proofs.Once.{judged_once}
use Rattle.judging.proofs.Promises.{promised}
use Rattle.judging.proofs.judge.judge_joint.Goals as goal

pub returns : goal.returns
returns g c =
    let d = details c.args.joint in
    let told = c.least_chain-net_width.ensures.named in
    let e : c.rows.result ≡ rows_of d.loads = c.rows.ensures ∙ ap rows_of c.loads.ensures in
    let made = subst (λ rows. Weighed rows c.weakest.result c.least_chain-net_width.result c.weighed.result) e c.weighed.ensures in
    let so = promised {states = g.B.Bank.rated c.args.bank.now d} made c.weakest.ensures told.least told.wide in
    record { chain = told.chain; sole = record { judged = so; only = λ i other p. judged_once p so }; slip = told.slip; reads = told.reads }
