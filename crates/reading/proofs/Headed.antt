-- The first line of each section.
use Rattle.std.proofs.Common.{◌≡◌, ℕ, ◌+◌, List, [], ◌∷◌, length, Ok, Err, codes, decimal, refl, subst, arith}
use Rattle.text.specs.declared.cursor.Cursor.{Cursor}
use Rattle.reading.specs.Beginnings.{Beginning, nothing, bar_named, barred, bolt_named, bolted, holing, loading}
use Rattle.reading.specs.Fields.{Passed, HeaderRead}
use Rattle.reading.specs.LineFaults.{LineFault}
use Rattle.reading.specs.Stages.{Leads, at_start, at_bar, with_bar, at_bolt, with_bolt, with_holes, drilled, at_loads}
use Rattle.reading.specs.declared.fault.ReadFault.{ReadFault}
use Rattle.reading.specs.declared.reader.Reader.{Reader}
use Rattle.reading.proofs.Forward.{next, faulty_line}

counted : {was now : Cursor} (n k : ℕ) (name : List ℕ) → n ≡ k → Passed was (decimal n ∷ name ∷ []) now → Passed was (decimal k ∷ name ∷ []) now
counted {was} {now} n k name e p = subst (λ (m : ℕ). Passed was (decimal m ∷ name ∷ []) now) e p

-- the reader past that line
abbrev pub past : Reader → Cursor → Reader
past was mid = record { cursor = mid; sheet = was.sheet }

module _ (was : Reader) {mid : Cursor} where
  pub bar_headed : (n : ℕ) → HeaderRead was.cursor (codes "bar") 1 1 (Ok n) mid → Leads at_start at_bar was (Ok tt) (past was mid)
  bar_headed n h = record { goes = λ text u at. (tt, next nothing bar_named at (counted n 1 (codes "bar") (omega arith) h.0) refl tt at.account) }

  pub bolt_headed : (n : ℕ) → HeaderRead was.cursor (codes "bolt") 1 1 (Ok n) mid → Leads with_bar at_bolt was (Ok tt) (past was mid)
  bolt_headed n h = record { goes = λ text b at. (b, next (barred b) (bolt_named b) at (counted n 1 (codes "bolt") (omega arith) h.0) refl at.lawful at.account) }

  pub holes_headed : (n : ℕ) → HeaderRead was.cursor (codes "holes") 0 32 (Ok n) mid → Leads with_bolt (with_holes n 0) was (Ok tt) (past was mid)
  holes_headed n h = record {
    goes = λ text p at. (
      record { bar = p.0; bolt = p.1; holes = []; many = refl },
      next (bolted p.0 p.1) (holing p.0 p.1 n []) at h.0 refl (at.lawful.0, at.lawful.1, h.2, tt) at.account,
    );
  }

  pub loads_headed : (n : ℕ) → HeaderRead was.cursor (codes "loads") 7 7 (Ok n) mid → Leads drilled at_loads was (Ok tt) (past was mid)
  loads_headed n h = record {
    goes = λ text p at.
        let l = at.lawful in (
          p,
          next (holing p.0 p.1 (length p.2) p.2) (loading p.0 p.1 p.2 []) at
              (counted n 7 (codes "loads") (omega arith) h.0) refl (l.0, l.1, l.2, l.3, tt) at.account,
        );
  }

-- its fault
pub misheaded : {X F : Type 0} (from : X → Beginning) {was : Reader} {e : ReadFault} → (e.line ≡ was.cursor.line + 1) × F → ((x : X) → F → LineFault (from x) was.cursor.rest.now e.cause) → Leads from from was (Err e) was
misheaded from h fault = record { goes = λ text x at. faulty_line (from x) at h.0 (fault x h.1) }
