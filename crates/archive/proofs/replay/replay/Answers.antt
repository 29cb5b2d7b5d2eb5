use Rattle.std.proofs.Common.{◌≡◌, length, Err, sym, ap, ◌∙◌, subst, arith, rules}
use Rattle.std.proofs.lemmas.Result.{err_from_is_err_and}
use Rattle.archive.specs.Promises.{Promises}
use Rattle.archive.specs.Replays.{Replays}
use Rattle.archive.proofs.Drilling.{holes_stand}
use Rattle.archive.proofs.Kept.{all_kept}
use Rattle.archive.proofs.Loading.{loads_last}
use Rattle.archive.proofs.Runs.{ran_none, ran_next, ran_all, ran_wrong}
use Rattle.archive.proofs.replay.replay.Goals as goal

pub loop-place-init : goal.loop-place-init
loop-place-init g c = ran_none _ _ _ _ c.new-answers.ensures.items c.new.ensures

pub returns-in_err-led : goal.returns-in_err-led
returns-in_err-led g c = record { replays = search rules; holes = holes_stand; loads = loads_last; promises = search rules }

pub returns-in_err-next : goal.returns-in_err-next
returns-in_err-next g c =
    let p = err_from_is_err_and c.from_residual-in_err-next.result c.from_residual-in_err-next.ensures.1 in
    let out = sym c.ok_or.ensures.value ∙ c.in_err-next.was in
    let halts = ran_wrong _ _ _ _ _ _ _ _ (omega arith) out c.loop-place.invariant c.loop-place-test.true c.in_ok-led.ensures in
    let is = sym (p.1 ∙ ap Err p.2) in
    record { replays = subst (Replays _ _) is halts; holes = holes_stand; loads = loads_last; promises = subst (Promises _ _) is tt }

pub loop-place-preserved : goal.loop-place-preserved
loop-place-preserved g c =
    ran_next _ _ _ _ _ _ _ _ _ _ (sym c.ok_or.ensures.value ∙ c.in_ok-next.was) c.loop-place.invariant c.loop-place-test.true c.in_ok-led.ensures c.in_ok-push.ensures.items

pub returns : goal.returns
returns g c =
    let all : length c.args.calls.now ≡ c.loop-place.place = omega arith in
    let run = ran_all _ _ _ _ _ all c.loop-place.invariant in
    record { replays = run; holes = holes_stand; loads = loads_last; promises = all_kept _ _ _ run }

pub returns-in_err-push : goal.returns-in_err-push
returns-in_err-push g c = record { replays = search rules; holes = holes_stand; loads = loads_last; promises = search rules }
