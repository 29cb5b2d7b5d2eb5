-- What the sheet says of the bar's line.
use Rattle.std.proofs.Common.{◌≡◌, ℕ, cond, not, List, [], ◌∷◌, Ok, Err, Some, None, decimal, Result, sym, refl, ap, ◌∙◌, subst, inl, inr, ◌≢◌}
use Rattle.parts.specs.declared.bar.Bar.{Bar}
use Rattle.parts.specs.declared.fault.Fault.{Fault}
use Rattle.parts.specs.declared.fault.Fault.TheVariants.{OutOfRange, UnknownSteel}
use Rattle.parts.specs.declared.steel.Steel.{Steel}
use Rattle.parts.specs.declared.steel.Steel.TheVariants.{A36, A529, A572Grade42, A572Grade50, A572Grade60, A572Grade65}
use Rattle.parts.specs.Ranges.{bar_ranges}
use Rattle.parts.specs.Steels.{steel_number, steel_name, steel_of}
use Rattle.sheet.specs.Account.{Account, blank}
use Rattle.sheet.specs.Calls.{Bars, bar_fault}
use Rattle.sheet.specs.Calls as calls
use Rattle.sheet.specs.Kept.{open_account}
use Rattle.sheet.specs.declared.sheet.open.Open.{Open}
use Rattle.text.specs.declared.cursor.Cursor.{Cursor}
use Rattle.reading.specs.Beginnings.{bar_named, barred, account_of}
use Rattle.reading.specs.Fields.{Passed, BarFields}
use Rattle.reading.specs.Shapes.{BarShape}
use Rattle.reading.specs.Stages.{Leads, at_bar, with_bar}
use Rattle.reading.specs.declared.fault.Cause.{Cause}
use Rattle.reading.specs.declared.fault.Cause.TheVariants.{Malformed, Sheet}
use Rattle.reading.specs.declared.fields.BarLine.{BarLine}
use Rattle.reading.specs.declared.reader.Reader.{Reader}
use Rattle.reading.proofs.Forward.{next, Wrong}
use Rattle.reading.proofs.Settled.{settled_ok, settled_err, passed_last, failed_last}

abbrev pub bar_shape : (was now : Cursor) (f : BarLine) → BarFields was f now → BarShape was.rest.now
bar_shape was now f h = record {
  width = f.width;
  thickness = f.thickness;
  steel = f.steel.now;
  edge = f.edge;
  rest = now.rest.now;
  begins = h.0.begins;
  short = (h.1, h.2, h.3);
}

abbrev the_bar : ℕ → ℕ → Steel → ℕ → Bar
the_bar w t s e = record { width = w; thickness = t; steel = s; edge = e }

-- a steel's number is its own
steel_again : (s : Steel) → steel_of (steel_number s) ≡ Some s
steel_again A36 = refl
steel_again A529 = refl
steel_again A572Grade42 = refl
steel_again A572Grade50 = refl
steel_again A572Grade60 = refl
steel_again A572Grade65 = refl

bar_says : (w t : ℕ) (s : Steel) (e k : ℕ) → k ≡ steel_number s → bar_fault blank w t k e ≡ cond (not (bar_ranges (the_bar w t s e))) (Some OutOfRange) None
bar_says w t s e k its = ap (λ n. bar_fault blank w t n e) its ∙ simp (steel_again s)

bar_leaves : (w t : ℕ) (s : Steel) (e k : ℕ) → k ≡ steel_number s → calls.barred blank w t k e ≡ account_of (barred (the_bar w t s e))
bar_leaves w t s e k its = ap (λ n. calls.barred blank w t n e) its ∙ simp (steel_again s)

module _ {was : Reader} where
  pub bar_malformed : (BarShape was.cursor.rest.now → ⊥) → Wrong at_bar was Malformed
  bar_malformed h = record { fault = λ text u at. inl (refl, h) }

  module _ (f : BarLine) {now : Cursor} (h : BarFields was.cursor f now) where
    pub bar_unknown : {c : Cause} → (c ≡ Sheet UnknownSteel) × ((s : Steel) → f.steel.now ≢ steel_name s) → Wrong at_bar was c
    bar_unknown p = record { fault = λ text u at. inr (inl (p.0, (bar_shape was.cursor now f h, p.1))) }

    module _ (s : Steel) (named : f.steel.now ≡ steel_name s) (k : ℕ) (its : k ≡ steel_number s) {r : Result (Unit {0}) Fault} where
      pub bar_refused : {g : Fault} {a : Account} → Bars (open_account was.sheet) f.width f.thickness k f.edge r a → r ≡ Err g → Wrong at_bar was (Sheet g)
      bar_refused {g} {a} call is = record {
        fault = λ text u at.
            let fault = settled_err _ (subst (λ x. Bars x f.width f.thickness k f.edge r a) at.account call) is in
            let o = failed_last (bar_ranges (the_bar f.width f.thickness s f.edge)) OutOfRange g (sym (bar_says f.width f.thickness s f.edge k its) ∙ fault) in
            inr (inr (ap Sheet o.1, (bar_shape was.cursor now f h, s, named, o.0)));
      }

      pub bar_taken : {new : Open} {u : Unit {0}} → Bars (open_account was.sheet) f.width f.thickness k f.edge r (open_account new) → r ≡ Ok u → Leads at_bar with_bar was (Ok tt) (record { cursor = now; sheet = new })
      bar_taken {new} call is = record {
        goes = λ text u at.
            let bar = the_bar f.width f.thickness s f.edge in
            let settled = settled_ok _ (subst (λ x. Bars x f.width f.thickness k f.edge r (open_account new)) at.account call) is in (
              bar,
              next bar_named (barred bar) at
                  (subst (λ (w : List ℕ). Passed was.cursor (decimal f.width ∷ decimal f.thickness ∷ w ∷ decimal f.edge ∷ []) now) named h.0)
                  refl (passed_last (bar_ranges bar) OutOfRange (sym (bar_says f.width f.thickness s f.edge k its) ∙ settled.0))
                  (settled.1 ∙ bar_leaves f.width f.thickness s f.edge k its),
            );
      }
