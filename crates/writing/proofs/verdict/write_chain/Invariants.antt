use Rattle.std.proofs.Common.{take}
use Rattle.std.specs.List.{flat_map}
use Rattle.text.specs.Drafts.{Adds}
use Rattle.writing.specs.Texts.{chain_line}
use Rattle.writing.proofs.verdict.write_chain.Given as goal

abbrev pub invariant-loop-number : goal.invariant-loop-number
invariant-loop-number l = Adds l.initial.draft (flat_map chain_line (take l.number-index l.numbers)) l.draft
