use Rattle.std.proofs.lemmas.Option.{MatchOption-at_some}
use Rattle.reading.proofs.BarTold.{bar_malformed, bar_unknown, bar_refused, bar_taken}
use Rattle.reading.proofs.Forward.{none_wrong, wrong_line}
use Rattle.reading.proofs.reader.Reader.bar_line.Goals as goal

pub returns-in_err-line : goal.returns-in_err-line
returns-in_err-line c = wrong_line _ (none_wrong _ _ c.bar_fields.ensures c.in_err-line.ensures.value bar_malformed) c.from_residual.ensures.1

pub returns-in_err-steel : goal.returns-in_err-steel
returns-in_err-steel c =
    let h = MatchOption-at_some _ _ _ c.in_ok-line.ensures.ok_part c.bar_fields.ensures in
    wrong_line _ (bar_unknown c.in_ok-line.line h c.in_err-steel.ensures) c.from_residual-in_err-steel.ensures.1

pub returns-in_err-bar : goal.returns-in_err-bar
returns-in_err-bar c =
    let h = MatchOption-at_some _ _ _ c.in_ok-line.ensures.ok_part c.bar_fields.ensures in
    wrong_line _ (bar_refused c.in_ok-line.line h c.in_ok-steel.steel c.in_ok-steel.ensures _ c.from.ensures c.bar.ensures c.in_err-bar.was) c.from_residual-in_err-bar.ensures.1

pub returns : goal.returns
returns c =
    let h = MatchOption-at_some _ _ _ c.in_ok-line.ensures.ok_part c.bar_fields.ensures in
    bar_taken c.in_ok-line.line h c.in_ok-steel.steel c.in_ok-steel.ensures _ c.from.ensures c.bar.ensures c.in_ok-bar.was
