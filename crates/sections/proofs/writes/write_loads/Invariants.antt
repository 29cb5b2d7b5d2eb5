use Rattle.std.proofs.Common.{take}
use Rattle.std.specs.List.{flat_map}
use Rattle.text.specs.Drafts.{Adds}
use Rattle.sections.specs.Texts.{load_at, load_line}
use Rattle.sections.proofs.writes.write_loads.Given as goal

abbrev pub invariant-loop-kind : goal.invariant-loop-kind
invariant-loop-kind l = Adds l.initial.draft (flat_map (λ k. load_line (load_at l.loads k)) (take l.kind-index l.kind-items)) l.draft
