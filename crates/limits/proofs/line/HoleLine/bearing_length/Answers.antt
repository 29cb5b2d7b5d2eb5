use Rattle.std.proofs.Common.{◌≡◌, ◌*◌, length, sum_by, ap, ◌∙◌, arith, rules}
use Rattle.std.specs.Slice.Iter.{windows_rest, windows_size}
use Rattle.limits.specs.Bearing.{Next}
use Rattle.limits.proofs.Neighbours.{YieldsList-from_windows, window_at, pairs, clear, clear_most, clear_sum, roomy_sum}
use Rattle.std.proofs.iter.Serving.{same}
use Rattle.std.proofs.lemmas.Iterator.{YieldsList-from_map}
use Rattle.std.proofs.lemmas.Iterator.Consumers.{fits_by_from_yields_list, sum_by_from_yields_List}
use Rattle.limits.proofs.line.HoleLine.bearing_length.Goals as goal

pub returns-then-is_roomy : goal.returns-then-is_roomy
returns-then-is_roomy c =
    let holes = c.args.self.now.holes.now in
    ap (λ n. length holes * n) c.longest.ensures ∙ roomy_sum c.args.self.now.diameter holes c.args.self.now.in_line.some c.if-is_roomy.ensures

pub sum-between-requires-clause-can : goal.sum-between-requires-clause-can
sum-between-requires-clause-can c =
    let size = ap windows_size c.map.ensures.source ∙ c.windows.ensures.size in
    let rest = ap windows_rest c.map.ensures.source ∙ c.windows.ensures.rest in (
      omega (arith, size),
      record {
        at = λ xs t q x u y f st.
            let two = window_at (Next _) _ _ t u xs x size rest c.args.self.now.in_line.rising y st in
            let same_line = same _ (λ p v r k. search rules) xs _ q f ∙ c.map.ensures.closure in
            let same_diameter : q.0.now.diameter ≡ c.args.self.now.diameter = ap (λ p. p.0.now.diameter) same_line in
            search (rules, two, same_diameter);
      },
    )

pub sum-between-requires-clause-fits : goal.sum-between-requires-clause-fits
sum-between-requires-clause-fits c =
    let line = c.args.self.now in
    let size = ap windows_size c.map.ensures.source ∙ c.windows.ensures.size in
    let rest = ap windows_rest c.map.ensures.source ∙ c.windows.ensures.rest in
    fits_by_from_yields_list (clear line.diameter) (pairs line.holes.now) c.map.result _
    (YieldsList-from_map _ (clear line.diameter) (YieldsList-from_windows line.holes.now size rest) c.map.ensures.closure (λ x r q k. search rules))
    (omega (arith, clear_most line.diameter line.holes.now line.in_line.small line.in_line.few))

between : (c : goal.After-sum-between) → c.sum-between.result ≡ sum_by (clear c.args.self.now.diameter) (pairs c.args.self.now.holes.now)
between c =
    let line = c.args.self.now in
    let size = ap windows_size c.map.ensures.source ∙ c.windows.ensures.size in
    let rest = ap windows_rest c.map.ensures.source ∙ c.windows.ensures.rest in
    sum_by_from_yields_List (clear line.diameter) (pairs line.holes.now) c.map.result _ c.sum-between.ensures.ran
    (YieldsList-from_map _ (clear line.diameter) (YieldsList-from_windows line.holes.now size rest) c.map.ensures.closure (λ x r q k. search rules))

pub overflow_add-result : goal.overflow_add-result
overflow_add-result c =
    let line = c.args.self.now in
    omega (arith, between c, c.capped-end.ensures, line.in_line.small, clear_most line.diameter line.holes.now line.in_line.small line.in_line.few)

pub returns : goal.returns
returns c =
    let line = c.args.self.now in
    omega (arith, between c, c.capped-end.ensures, clear_sum line.diameter line.holes.now line.in_line.some c.if-is_roomy.ensures)
