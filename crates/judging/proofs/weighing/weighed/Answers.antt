use Rattle.std.proofs.Common.{rules, arith, ◌≡◌, ℕ, ◌<◌, length, pos, ◌≤ℤ◌, refl, subst}
use Rattle.std.proofs.iter.runs.Made.{chains}
use Rattle.std.specs.declared.cmp.Reverse.{Reverse}
use Rattle.std.proofs.lemmas.Cmp.{on_total, back_total, int_cmp_total}
use Rattle.std.proofs.lemmas.Iterator.{YieldsList-from_slice}
use Rattle.std.proofs.lemmas.Iterator.Consumers.{YieldsList-at, YieldsList-from_enumerate}
use Rattle.std.proofs.lemmas.List.Sorted.{answers_always}
use Rattle.parts.specs.declared.quantity.Decinewtons.{Decinewtons}
use Rattle.chains.proofs.Firsts.{first_by_key, less, not_less}
use Rattle.judging.specs.Rows.{row_at, decinewtons}
use Rattle.judging.proofs.weighing.weighed.Goals as goal

pub returns : goal.returns
returns c =
    let rows = c.args.rows.now in
    let road = YieldsList-from_enumerate (YieldsList-at c.enumerate.ensures.source (YieldsList-from_slice rows c.iter.ensures.rest)) c.enumerate.ensures.count in
    let first = first_by_key (on_total (λ (r : Reverse Decinewtons). r.0) (back_total (on_total (λ (d : Decinewtons). d.0) int_cmp_total))) (λ (d : Decinewtons). record { 0 = d }) _ _ _ _ rows _ c.min_by_key.ensures.ran road (answers_always _ _ _ (λ f a r g h. search rules)) c.unwrap-place.ensures in
    let all : (k : ℕ) → k < 19 → c.unwrap-least.result.now.0 ≤ℤ (row_at rows k).0 = λ k lt. search (rules, chains, c.iter-2.ensures, c.min.ensures, c.unwrap-least.ensures) in
    let some : (k : ℕ) × (k < 19) × (c.unwrap-least.result.now ≡ row_at rows k) = search (rules, chains, c.iter-2.ensures, c.min.ensures, c.unwrap-least.ensures) in
    let best = first.0 in
    let place = c.unwrap-place.result.0 in
    let long : length rows ≡ 19 = c.told-rows in
    record {
      high = place;
      top = record {
        stands = omega (arith, best.0);
        none_above = λ k lt. not_less (row_at rows place).0 (row_at rows k).0 (best.1 k (decinewtons (pos 0)) (omega arith));
        under_before = λ k lt. less (row_at rows k).0 (row_at rows place).0 (best.2 k (decinewtons (pos 0)) lt);
      };
      row = refl;
      greatest = first.1 (decinewtons (pos 0));
      low = some.0;
      bottom = record { stands = some.1; none_under = λ k lt. subst (λ (d : Decinewtons). d.0 ≤ℤ (row_at rows k).0) some.2 (all k lt) };
      least = some.2;
      state = refl;
      strength = refl;
      net_width = refl;
      kind = c.kind.ensures;
    }
