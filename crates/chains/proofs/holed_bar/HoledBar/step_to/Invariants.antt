use Rattle.std.proofs.Common.{◌≡◌, suc, ◌≤◌, drop, length}
use Rattle.chains.specs.Search.{Picks}
use Rattle.chains.proofs.holed_bar.HoledBar.step_to.Given as goal

abbrev pub invariant-loop-place : goal.invariant-loop-place
invariant-loop-place l =
    let place = l.place-iterator.count in
    record {
      can_next : (goal.iterator-loop-place).can_next l.place-iterator;
      is_finite : (goal.iterator-loop-place).is_finite l.place-iterator;
      within : place ≤ length l.steps;
      holes : l.place-iterator.iter.a.rest.now ≡ drop place l.self.holes.now;
      steps : l.place-iterator.iter.b.rest.now ≡ drop place l.steps;
      picks : Picks l.self.width l.self.holes.now l.steps (suc (length l.steps)) place l.best;
    }
