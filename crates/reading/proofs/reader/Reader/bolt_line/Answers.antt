use Rattle.std.proofs.lemmas.Option.{MatchOption-at_some}
use Rattle.reading.proofs.BoltTold.{bolt_malformed, bolt_unknown, bolt_refused, bolt_taken}
use Rattle.reading.proofs.Forward.{none_wrong, wrong_line}
use Rattle.reading.proofs.reader.Reader.bolt_line.Goals as goal

pub returns-in_err-line : goal.returns-in_err-line
returns-in_err-line c = wrong_line _ (none_wrong _ _ c.bolt_fields.ensures c.in_err-line.ensures.value bolt_malformed) c.from_residual.ensures.1

pub returns-in_err-size : goal.returns-in_err-size
returns-in_err-size c =
    let h = MatchOption-at_some _ _ _ c.in_ok-line.ensures.ok_part c.bolt_fields.ensures in
    wrong_line _ (bolt_unknown c.in_ok-line.line h c.in_err-size.ensures) c.from_residual-in_err-size.ensures.1

pub returns-in_err-bolt : goal.returns-in_err-bolt
returns-in_err-bolt c =
    let h = MatchOption-at_some _ _ _ c.in_ok-line.ensures.ok_part c.bolt_fields.ensures in
    wrong_line _ (bolt_refused c.in_ok-line.line h c.in_ok-size.size c.in_ok-size.ensures _ c.from.ensures c.bolt.ensures c.in_err-bolt.was) c.from_residual-in_err-bolt.ensures.1

pub returns : goal.returns
returns c =
    let h = MatchOption-at_some _ _ _ c.in_ok-line.ensures.ok_part c.bolt_fields.ensures in
    bolt_taken c.in_ok-line.line h c.in_ok-size.size c.in_ok-size.ensures _ c.from.ensures c.bolt.ensures c.in_ok-bolt.was
