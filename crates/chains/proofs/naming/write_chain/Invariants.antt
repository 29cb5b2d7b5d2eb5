use Rattle.std.proofs.Common.{◌≡◌, length}
use Rattle.chains.specs.Search.{led}
use Rattle.chains.proofs.Paths.{Written}
use Rattle.chains.proofs.naming.write_chain.Given as goal

abbrev pub invariant-loop-place : goal.invariant-loop-place
invariant-loop-place l =
    let all = led l.chain.steps.now l.chain.at in
    let rest = led l.place-iterator.b.steps.now l.place-iterator.b.at in
    record {
      can_next : (goal.iterator-loop-place).can_next l.place-iterator;
      is_finite : (goal.iterator-loop-place).is_finite l.place-iterator;
      count : l.count ≡ length all;
      start : l.place-iterator.a.iter.start ≡ 0;
      end : l.place-iterator.a.iter.end ≡ length rest;
      written : Written all l.initial.slip rest l.slip;
      long : length l.slip ≡ 32;
    }
