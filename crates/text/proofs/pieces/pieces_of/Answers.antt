use Rattle.std.proofs.Common.{◌≡◌, ◌+◌, ◌-◌, ◌<◌, length, sym, ◌∙◌, subst, arith}
use Rattle.std.proofs.lemmas.List.{take_more_set}
use Rattle.std.proofs.lemmas.Bool.{eqb-true, eqb-false}
use Rattle.text.specs.Words.{NotOf}
use Rattle.text.proofs.Partway.{partway_more, word_cut, empty_first}
use Rattle.text.proofs.Spaces.{no_space, not_begun, not_one}
use Rattle.text.proofs.pieces.pieces_of.Goals as goal

pub returns-in_err-word : goal.returns-in_err-word
returns-in_err-word g c =
    rw c.from_residual.ensures (c.loop-piece.invariant.partway.none (not_begun _ _ (omega arith) (no_space _ c.in_err-word.ensures)))

pub returns-then-is_empty-2 : goal.returns-then-is_empty-2
returns-then-is_empty-2 g c =
    let none : length c.in_ok-word.word.now ≡ 0 = eqb-true _ 0 (sym c.is_empty-in-loop-piece.ensures ∙ c.if-is_empty-2.true) in
    c.loop-piece.invariant.partway.none (not_begun _ _ (omega arith) (empty_first c.in_ok-word.ensures none))

pub loop-piece-preserved : goal.loop-piece-preserved
loop-piece-preserved g c =
    let h : c.loop-piece.piece-index < length c.loop-piece.piece-items = omega arith in
    let some : 0 < length c.in_ok-word.word.now = omega (arith, eqb-false _ 0 (sym c.is_empty-in-loop-piece.ensures ∙ c.if-is_empty-2.false)) in
    record {
      count = c.loop-piece.invariant.count;
      partway =
          rw (take_more_set c.loop-piece.piece-items c.loop-piece.piece-index c.of.result h)
          (partway_more _ c.loop-piece.invariant.partway (omega arith) (omega arith) (word_cut c.in_ok-word.ensures some c.of.ensures.says) c.of.ensures.sound);
    }

pub returns-in_err-last : goal.returns-in_err-last
returns-in_err-last g c =
    let one : length c.in-Some.before.now + 1 - c.loop-piece.piece-index ≡ 1 = omega arith in
    rw c.from_residual-in_err-last.ensures
    (c.loop-piece.invariant.partway.none (subst (λ n. NotOf n c.loop-piece.rest.now) (sym one) (not_one _ c.in_err-last.ensures)))
