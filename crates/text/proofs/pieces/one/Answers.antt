use Rattle.text.proofs.Spaces.{several}
use Rattle.text.proofs.pieces.one.Goals as goal

pub returns-in-Some : goal.returns-in-Some
returns-in-Some g c = several c.in-Some.ensures
