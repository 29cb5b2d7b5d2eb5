use Rattle.std.proofs.Common.{◌≡◌, length}
use Rattle.chains.specs.Search.{Full}
use Rattle.chains.proofs.holed_bar.HoledBar.steps.Given as goal

abbrev pub invariant-loop-hole : goal.invariant-loop-hole
invariant-loop-hole l = record {
  full : Full l.self.width l.self.holes.now l.steps.items;
  long : length l.steps.items ≡ l.hole-index;
}
