use Rattle.std.proofs.Common.{refl, inr}
use Rattle.sheet.specs.Kept.{closed_account}
use Rattle.archive.proofs.Again.{pages_read_again}
use Rattle.archive.proofs.Laying.{laid_check, page_check}
use Rattle.archive.proofs.check.check.Goals as goal

pub returns-in-Err : goal.returns-in-Err
returns-in-Err c =
    record {
      answer = laid_check c.args.text.now _ _ _ _ (inr (c.in-Err.fault, c.in-Err.ensures, refl)) c.write_refusal.ensures;
      again = pages_read_again;
    }

pub returns-in-Ok : goal.returns-in-Ok
returns-in-Ok c =
    record {
      answer = page_check c.args.text.now c.args.out.now c.page.new.out (closed_account c.in-Ok.sheet) c.page.result _ _ c.in-Ok.ensures.0 c.in-Ok.ensures.1 c.page.ensures c.map_err.ensures.cases c.map_err.ensures.variant;
      again = pages_read_again;
    }
