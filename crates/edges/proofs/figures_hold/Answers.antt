use Rattle.edges.proofs.Shown.{shown}
use Rattle.edges.proofs.figures_hold.Goals as goal

pub returns : goal.returns
returns c = shown
