use Rattle.archive.proofs.Rulings.{gives_judged}
use Rattle.archive.proofs.step.Replayer.judged.Goals as goal

pub returns : goal.returns
returns g c = gives_judged _ _ _ _ c.in_ok-judgment.ensures
