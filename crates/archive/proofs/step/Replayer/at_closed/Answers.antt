use Rattle.archive.proofs.Rulings.{led_paged}
use Rattle.archive.proofs.step.Replayer.at_closed.Goals as goal

pub returns-in_ok-bytes-in-Page : goal.returns-in_ok-bytes-in-Page
returns-in_ok-bytes-in-Page g c =
    led_paged _ _ _ _ _ c.in-Page.is (rw c.in_ok-bytes-in-Page.ensures.len at c.paged-answer.ensures)
