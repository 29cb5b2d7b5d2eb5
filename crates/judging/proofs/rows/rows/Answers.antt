use Rattle.std.proofs.Common.{◌≡◌, pos, sym, ◌∙◌, rules, arith}
use Rattle.std.proofs.lemmas.List.{ext_get_or}
use Rattle.judging.specs.Rows.{rows_of, row_at, decinewtons}
use Rattle.judging.proofs.Factors.{length_rows}
use Rattle.judging.proofs.Made.{made_from}
use Rattle.judging.proofs.rows.rows.Goals as goal

pub returns : goal.returns
returns c =
    let made = c.from_fn.ensures.items in
    let loads = c.args.loads.now in
    ext_get_or (decinewtons (pos 0)) c.from_fn.result (rows_of loads) (made.long ∙ sym (length_rows loads))
    (λ k h. made_from _ (λ i y. y ≡ row_at (rows_of loads) i) _ (λ i y f' call. search rules) c.from_fn.result (decinewtons (pos 0)) 0 19 made.each k (omega arith) (omega (arith, made.long)))
