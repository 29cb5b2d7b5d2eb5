use Rattle.std.proofs.Common.{sym, ap, arith}
use Rattle.std.specs.List.{flat_map}
use Rattle.std.proofs.lemmas.List.{take_all}
use Rattle.text.proofs.Chained.{◌then◌, same, none_added}
use Rattle.text.proofs.Grown.{joined_take}
use Rattle.writing.specs.Texts.{chain_line}
use Rattle.writing.proofs.verdict.write_chain.Goals as goal

pub loop-number-init : goal.loop-number-init
loop-number-init c = none_added _

pub loop-number-preserved : goal.loop-number-preserved
loop-number-preserved c =
    same (sym (joined_take chain_line c.args.numbers.now c.loop-number.number-index 0 c.loop-number-test.true)) (c.loop-number.invariant then c.write_number.ensures)

pub returns : goal.returns
returns c = c.header.ensures then same (ap (flat_map chain_line) (take_all c.loop-number.number-index c.args.numbers.now (omega arith))) c.loop-number.invariant
