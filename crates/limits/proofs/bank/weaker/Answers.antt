use Rattle.std.proofs.Common.{rules}
use Rattle.std.proofs.lemmas.List.Sorted.{answers_always}
use Rattle.limits.proofs.bank.weaker.Goals as goal

pub returns : goal.returns
returns c =
    let least = c.min_by_key.ensures (λ r. r.strength) (answers_always _ _ _ (λ f a r f' k. search rules)) in
    record { first = λ h. search (rules, least); second = λ h. search (rules, least) }
