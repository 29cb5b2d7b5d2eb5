use Rattle.std.proofs.Common.{ap}
use Rattle.limits.proofs.Weakest.{lone_weakest}
use Rattle.limits.proofs.bank.OnlyBank.weakest.Goals as goal

pub returns : goal.returns
returns g c = lone_weakest _ _ _ (ap (λ n. n.value) c.NUMBER.ensures) c.strength.ensures
