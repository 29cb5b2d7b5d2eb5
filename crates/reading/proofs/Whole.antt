-- From the start of a text to its answer.
use Rattle.std.proofs.Common.{◌≡◌, ℕ, ◌-◌, ◌≤◌, List, length, Ok, Err, Result, IsErrAnd, sym, refl, ap, ◌∙◌, subst, inr, arith, length-append}
use Rattle.std.proofs.lemmas.Result.{err_from_is_err_and}
use Rattle.sheet.specs.Account.{Account}
use Rattle.sheet.specs.Kept.{open_account}
use Rattle.reading.specs.Beginnings.{Beginning, nothing, written}
use Rattle.reading.specs.Reads.{Accepted, Reads}
use Rattle.reading.specs.Stages.{At, Leads, at_start, Whole, whole}
use Rattle.reading.specs.declared.fault.ReadFault.{ReadFault}
use Rattle.reading.specs.declared.reader.Reader.{Reader}

module _ {text : List ℕ} {was : Reader} (start : At text nothing was) where
  pub refused : (kept : Account) (r : Result ℕ ReadFault) {Y : Type 0} {by : Y → Beginning} {mid : Reader} {e : ReadFault} → Leads at_start by was (Err e) mid → IsErrAnd r (λ y. y ≡ e) → Reads text kept r kept
  refused kept r p is =
      let told = err_from_is_err_and r is in
      subst (λ (x : Result ℕ ReadFault). Reads text kept x kept) (sym told.1)
      (subst (λ (x : ReadFault). Reads text kept (Err x) kept) (sym told.2) (inr (p.goes text tt start), refl))

  module _ {now : Reader} (p : Leads at_start whole was (Ok tt) now) {left : List ℕ} (same : left ≡ now.cursor.rest.now) where
    reached : (y : Whole) × At text (whole y) now
    reached = p.goes text tt start

    -- what is left is a part of the text
    pub part : length left ≤ length text
    part = let y = reached in omega (arith, ap length same, ap length y.1.is ∙ length-append (written (whole y.0)) now.cursor.rest.now)

    pub accepted : Accepted text (length text - length left) (open_account now.sheet)
    accepted =
        let y = reached in
        record {
          short = start.short;
          bar = y.0.bar;
          bolt = y.0.bolt;
          holes = y.0.holes;
          loads = y.0.loads;
          rest = now.cursor.rest.now;
          seven = y.0.seven;
          lawful = y.1.lawful;
          is = y.1.is;
          took = omega (arith, ap length same, ap length y.1.is ∙ length-append (written (whole y.0)) now.cursor.rest.now);
          account = y.1.account;
        }
