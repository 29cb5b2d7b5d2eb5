use Rattle.std.proofs.Common.{◌≡◌, true, ◌∙◌, length-set, w32, to_z, of_z, rules}
use Rattle.sheet.specs.Law.{bearable}
use Rattle.sheet.proofs.Bearable.{bearable_set}
use Rattle.sheet.proofs.sheet.open.Open.load.Goals as goal

pub invariant_of-self-clause-seven : goal.invariant_of-self-clause-seven
invariant_of-self-clause-seven c = length-set _ _ _ ∙ c.args.self.now.sheet.seven

pub invariant_of-self-clause-bearable : goal.invariant_of-self-clause-bearable
invariant_of-self-clause-bearable c =
    let z = to_z w32 (of_z w32 c.args.newtons) in
    let fits : bearable z ≡ true = search rules in
    bearable_set _ c.from.result z fits c.args.self.now.sheet.bearable
