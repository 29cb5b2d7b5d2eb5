use Rattle.std.proofs.Common.{◌≡◌, ◌==◌, sym, arith, rules, tests}
use Rattle.std.specs.List.{position}
use Rattle.std.proofs.lemmas.Iterator.{YieldsList-from_slice}
use Rattle.std.proofs.lemmas.Iterator.Search.{position_from_yields_List}
use Rattle.writing.proofs.Slip.{told_before}
use Rattle.writing.proofs.verdict.numbers_on.Goals as goal

pub returns : goal.returns
returns c =
    let found : c.position.result ≡ position (λ n. n == 0) c.args.slip.now =
    position_from_yields_List (λ n. n == 0) _ _ c.position.result c.position.ensures.ran (YieldsList-from_slice c.args.slip.now cc) (λ x b q k. search (rules, tests)) in
    told_before c.args.slip.now 32 (rw (sym found, sym c.unwrap_or-count.ensures) (omega arith)) (omega arith)
