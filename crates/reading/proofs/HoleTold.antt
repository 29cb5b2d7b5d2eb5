-- What the sheet says of a hole's line.
use Rattle.std.proofs.Common.{◌≡◌, ℕ, ◌+◌, ◌<◌, List, ◌∷◌, length, Ok, Err, Result, sym, refl, ◌∙◌, subst, inl, inr, arith}
use Rattle.parts.specs.declared.fault.Fault.{Fault}
use Rattle.parts.specs.declared.hole.Hole.{Hole}
use Rattle.sheet.specs.Account.{Account}
use Rattle.sheet.specs.Calls.{Puts, hole_at}
use Rattle.sheet.specs.Kept.{open_account}
use Rattle.sheet.specs.declared.sheet.open.Open.{Open}
use Rattle.text.specs.declared.cursor.Cursor.{Cursor}
use Rattle.reading.specs.Beginnings.{holing}
use Rattle.reading.specs.Fields.{HoleFields}
use Rattle.reading.specs.Shapes.{HoleShape}
use Rattle.reading.specs.Stages.{At, Leads, Drilled, with_holes, drilled}
use Rattle.reading.specs.declared.fault.Cause.TheVariants.{Malformed, Sheet}
use Rattle.reading.specs.declared.reader.Reader.{Reader}
use Rattle.reading.proofs.Forward.{next, Wrong}
use Rattle.reading.proofs.Settled.{settled_ok, settled_err}

abbrev pub hole_shape : (was now : Cursor) (f : Hole) → HoleFields was f now → HoleShape was.rest.now
hole_shape was now f h = record {
  x = f.x;
  y = f.y;
  diameter = f.diameter;
  rest = now.rest.now;
  begins = h.0.begins;
  short = (h.1, h.2, h.3);
}

module _ (n i : ℕ) (room : i < n) {was : Reader} where
  pub hole_malformed : (HoleShape was.cursor.rest.now → ⊥) → Wrong (with_holes n i) was Malformed
  hole_malformed h = record { fault = λ text d at. inl (omega (arith, d.many), inl (refl, h)) }

  module _ (f : Hole) {now : Cursor} (h : HoleFields was.cursor f now) {r : Result (Unit {0}) Fault} where
    pub hole_refused : {g : Fault} {a : Account} → Puts (open_account was.sheet) f.x f.y f.diameter r a → r ≡ Err g → Wrong (with_holes n i) was (Sheet g)
    hole_refused {g} {a} call is = record {
      fault = λ text d at.
          inl (omega (arith, d.many), inr (hole_shape was.cursor now f h, g, refl, settled_err _ (subst (λ x. Puts x f.x f.y f.diameter r a) at.account call) is));
    }

    pub hole_put : {new : Open} {u : Unit {0}} → Puts (open_account was.sheet) f.x f.y f.diameter r (open_account new) → r ≡ Ok u → Leads (with_holes n i) (with_holes n (i + 1)) was (Ok tt) (record { cursor = now; sheet = new })
    hole_put {new} call is = record {
      goes = λ text d at.
          let hole = hole_at f.x f.y f.diameter in
          let l = at.lawful in
          let before : length d.holes < n = omega (arith, d.many) in
          let s = settled_ok _ (subst (λ x. Puts x f.x f.y f.diameter r (open_account new)) at.account call) is in (
            record { bar = d.bar; bolt = d.bolt; holes = hole ∷ d.holes; many = omega (arith, d.many) },
            next (with_holes n i d) (holing d.bar d.bolt n (hole ∷ d.holes)) at h.0 refl (l.0, l.1, l.2, (l.3, before, s.0)) s.1,
          );
    }

-- all that were announced
pub all_drilled : {text : List ℕ} {r : Reader} (n i : ℕ) (d : Drilled i) → i ≡ n → At text (with_holes n i d) r → At text (drilled (d.bar, d.bolt, d.holes)) r
all_drilled {text} {r} n i d e at = subst (λ (k : ℕ). At text (holing d.bar d.bolt k d.holes) r) (sym (d.many ∙ e)) at
