use Rattle.limits.proofs.Weakest.{weaker_of}
use Rattle.limits.proofs.bank.BothBank.weakest.Goals as goal

pub returns : goal.returns
returns g c = weaker_of c.weaker.result c.weakest.ensures c.weakest-2.ensures c.weaker.ensures.first c.weaker.ensures.second
