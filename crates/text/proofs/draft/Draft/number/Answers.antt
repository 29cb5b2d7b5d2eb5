use Rattle.std.proofs.Common.{sym, ap, [], ◌∷◌, rules, tests}
use Rattle.std.proofs.lemmas.List.{take_more}
use Rattle.text.proofs.Chained.{◌then◌, same, none_added}
use Rattle.text.proofs.draft.Draft.number.Goals as goal

pub loop-b-init : goal.loop-b-init
loop-b-init g c = none_added _

pub loop-b-preserved : goal.loop-b-preserved
loop-b-preserved g c = same (sym (take_more c.as_bytes-b-items.result.now c.loop-b.b-index 0 c.loop-b-test.true)) (c.loop-b.invariant then same (ap (λ b. b ∷ []) (search (rules, tests))) c.byte.ensures)
