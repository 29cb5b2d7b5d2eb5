use Rattle.std.proofs.Common.{rules}
use Rattle.archive.proofs.Rulings.{led_judged}
use Rattle.archive.proofs.step.Replayer.at_open.Goals as goal

pub returns : goal.returns
returns g c =
    elim c.match-call.branch [
      | goal.in-Bar w ↦ search rules
      | goal.in-Bolt w ↦ search rules
      | goal.in-Put w ↦ search rules
      | goal.in-Take w ↦ search rules
      | goal.in-Load w ↦ search rules
      | goal.in-Judge w ↦ search (rules, led_judged)
    ]
