use Rattle.std.proofs.Common.{rules, arith, ⊎_elim}
use borrow.Author.Differences.{ints}
use Rattle.std.proofs.lemmas.Bool.{cases_lt}
use Rattle.std.proofs.lemmas.Cmp.{on_total, int_cmp_total}
use Rattle.std.proofs.lemmas.Iterator.{YieldsList-from_slice}
use Rattle.std.proofs.lemmas.Iterator.Consumers.{YieldsList-at, YieldsList-from_enumerate}
use Rattle.std.proofs.lemmas.List.Sorted.{answers_always}
use Rattle.parts.specs.declared.quantity.Micrometres.{Micrometres}
use Rattle.chains.specs.declared.search.Step.{Step}
use Rattle.chains.specs.Search.{no_step, net_at}
use Rattle.chains.proofs.Firsts.{first_by_key, less, not_less}
use Rattle.chains.proofs.search.narrowest_end.Goals as goal

pub returns-clause-slimmest : goal.returns-clause-slimmest
returns-clause-slimmest c =
    let steps = c.args.steps.now in
    let road = YieldsList-from_enumerate (YieldsList-at c.enumerate.ensures.source (YieldsList-from_slice steps c.iter.ensures.rest)) c.enumerate.ensures.count in
    let first = first_by_key (on_total (λ (m : Micrometres). m.0) int_cmp_total) (λ (s : Step). s.net) _ _ _ _ steps _ c.min_by_key.ensures.ran road (answers_always _ _ _ (λ f a r g h. search rules)) c.unwrap-place.ensures in
    let best = first.0 in
    record {
      below = best.0;
      least = λ k lt. not_less (net_at steps k) _ (best.1 k no_step lt);
      first = λ k lt same. ⊎_elim (λ sooner. let h = less _ (net_at steps k) (best.2 k no_step sooner) in absurd (omega (arith, ints))) (λ ge. ge) (cases_lt k c.unwrap-place.result.0);
    }
