use Rattle.std.proofs.Common.{◌≡◌, ◌*◌, nat_le, nat_lt, ltb-true, true, length, sym, ◌∙◌, arith, rules}
use Rattle.std.specs.List.{list_all}
use Rattle.limits.specs.Bearing.{Next}
use Rattle.limits.proofs.Neighbours.{YieldsList-from_windows, window_at, pairs, spacing, roomy_by_spacings}
use Rattle.std.proofs.lemmas.Iterator.Search.{all_from_yields_List}
use borrow.Author.Tests.{tests}
use Rattle.limits.proofs.line.HoleLine.is_roomy.Goals as goal
use Rattle.limits.proofs.line.HoleLine.is_roomy.Goals.{then-self-gt1, else-self-gt1}

pub all-requires-clause-callable : goal.all-requires-clause-callable
all-requires-clause-callable c = record {
  at = λ xs t q x u y f st.
      let two = window_at (Next _) _ _ t u xs x c.windows.ensures.size c.windows.ensures.rest c.args.self.now.in_line.rising y st in search (rules, two);
}

pub returns-then-is_far : goal.returns-then-is_far
returns-then-is_far c =
    let holes = c.args.self.now.holes.now in
    let d = c.args.self.now.diameter in
    let wide : c.all.result ≡ list_all (λ p. nat_le (3 * d) (spacing p)) (pairs holes) =
    all_from_yields_List (λ p. nat_le (3 * d) (spacing p)) _ _ c.all.result c.all.ensures.ran (YieldsList-from_windows holes c.windows.ensures.size c.windows.ensures.rest) (λ x b q k. search (rules, tests)) in
    elim c.if-self-gt1.branch [
      | then-self-gt1 w ↦ roomy_by_spacings d holes c.all.result w.if-self-gt1.true (sym w.is_far.ensures ∙ sym w.value-is ∙ c.if-is_far.true) wide
      | else-self-gt1 w ↦ let two : nat_lt 1 (length holes) ≡ true = sym w.value-is ∙ c.if-is_far.true in absurd (omega (arith, ltb-true))
    ]
