use Rattle.std.proofs.lemmas.Option.{MatchOption-at_some}
use Rattle.reading.proofs.Forward.{none_wrong, wrong, wrong_line}
use Rattle.reading.proofs.LoadTold.{load_malformed, load_unknown, load_again, load_refused, load_taken, through}
use Rattle.reading.proofs.reader.Reader.load_line.Goals as goal

pub returns-in_err-name : goal.returns-in_err-name
returns-in_err-name c = λ i room.
    wrong_line _ (none_wrong _ _ c.load_fields.ensures c.in_err-name.ensures.value (load_malformed i room c.args.seen.now)) c.from_residual.ensures.1

pub returns-in_err-kind : goal.returns-in_err-kind
returns-in_err-kind c = λ i room. let h = MatchOption-at_some _ _ _ c.in_ok-name.ensures.ok_part c.load_fields.ensures in
    wrong_line _ (load_unknown i room c.args.seen.now (c.in_ok-name.name, c.in_ok-name.newtons) h c.in_err-kind.ensures) c.from_residual-in_err-kind.ensures.1

pub returns-then-seen-place : goal.returns-then-seen-place
returns-then-seen-place c = λ i room. let h = MatchOption-at_some _ _ _ c.in_ok-name.ensures.ok_part c.load_fields.ensures in
    wrong (load_again i room c.args.seen.now (c.in_ok-name.name, c.in_ok-name.newtons) h c.in_ok-kind.kind c.in_ok-kind.ensures _ c.from-place.ensures c.if-seen-place.true)

pub returns-in_err-load : goal.returns-in_err-load
returns-in_err-load c = λ i room. let h = MatchOption-at_some _ _ _ c.in_ok-name.ensures.ok_part c.load_fields.ensures in
    wrong_line _ (load_refused i room c.args.seen.now (c.in_ok-name.name, c.in_ok-name.newtons) h c.in_ok-kind.kind c.in_ok-kind.ensures _ c.from-place.ensures c.if-seen-place.false _ c.from.ensures _ (through c.in_ok-name.newtons h.1) c.load.ensures c.in_err-load.was)
    c.from_residual-in_err-load.ensures.1

pub returns : goal.returns
returns c = λ i room. let h = MatchOption-at_some _ _ _ c.in_ok-name.ensures.ok_part c.load_fields.ensures in
    load_taken i room c.args.seen.now (c.in_ok-name.name, c.in_ok-name.newtons) h c.in_ok-kind.kind c.in_ok-kind.ensures _ c.from-place.ensures c.if-seen-place.false _ c.from.ensures _ (through c.in_ok-name.newtons h.1) c.load.ensures c.in_ok-load.was
