use Rattle.std.proofs.lemmas.Option.{MatchOption-at_some}
use Rattle.reading.proofs.Forward.{none_wrong, wrong_line}
use Rattle.reading.proofs.HoleTold.{hole_malformed, hole_refused, hole_put}
use Rattle.reading.proofs.reader.Reader.hole_line.Goals as goal

pub returns-in_err-hole : goal.returns-in_err-hole
returns-in_err-hole c = λ n i room.
    wrong_line _ (none_wrong _ _ c.hole_fields.ensures c.in_err-hole.ensures.value (hole_malformed n i room)) c.from_residual.ensures.1

pub returns-in_err-put : goal.returns-in_err-put
returns-in_err-put c = λ n i room. let h = MatchOption-at_some _ _ _ c.in_ok-hole.ensures.ok_part c.hole_fields.ensures in
    wrong_line _ (hole_refused n i room c.in_ok-hole.hole h c.put.ensures.settled c.in_err-put.was) c.from_residual-in_err-put.ensures.1

pub returns : goal.returns
returns c = λ n i room. let h = MatchOption-at_some _ _ _ c.in_ok-hole.ensures.ok_part c.hole_fields.ensures in
    hole_put n i room c.in_ok-hole.hole h c.put.ensures.settled c.in_ok-put.was
