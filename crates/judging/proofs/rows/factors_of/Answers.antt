use Rattle.std.proofs.Common.{◌≡◌, sym, subst, rules}
use Rattle.std.specs.List.{All}
use Rattle.judging.specs.Factors.{Small}
use Rattle.judging.proofs.Factors.{seven_at, seven_long, seven_small}
use Rattle.judging.proofs.rows.factors_of.Goals as goal

pub returns-clause-small : goal.returns-clause-small
returns-clause-small c =
    let same : c.unwrap.result.now ≡ seven_at c.args.place = search (rules, seven_long) in
    subst (All Small) (sym same) (seven_small c.args.place c.requires)
