use Rattle.std.proofs.Common.{sym, ap, arith}
use Rattle.std.specs.List.{flat_map}
use Rattle.std.proofs.lemmas.List.Sorted.{IsPermutation-refl}
use Rattle.std.proofs.lemmas.List.{take_all}
use Rattle.text.proofs.Chained.{◌then◌, same, none_added}
use Rattle.text.proofs.Grown.{joined_take}
use Rattle.sections.specs.Texts.{all_kinds, load_at, load_line}
use Rattle.sections.proofs.writes.write_loads.Goals as goal

pub loop-kind-init : goal.loop-kind-init
loop-kind-init c = none_added _

pub loop-kind-preserved : goal.loop-kind-preserved
loop-kind-preserved c =
    same (sym (joined_take (λ k. load_line (load_at c.args.loads.now k)) all_kinds c.loop-kind.kind-index _ c.loop-kind-test.true)) (c.loop-kind.invariant then c.write_load.ensures)

pub returns : goal.returns
returns c = (
  all_kinds,
  record { once = IsPermutation-refl _ },
  c.header.ensures then same (ap (flat_map (λ k. load_line (load_at c.args.loads.now k))) (take_all c.loop-kind.kind-index all_kinds (omega arith))) c.loop-kind.invariant,
)
