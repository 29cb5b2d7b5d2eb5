-- What the sheet says of the bolt's line.
use Rattle.std.proofs.Common.{◌≡◌, ℕ, cond, not, List, [], ◌∷◌, Ok, Err, Some, None, decimal, Result, sym, refl, ap, ◌∙◌, subst, inl, inr, ◌≢◌}
use Rattle.parts.specs.declared.bar.Bar.{Bar}
use Rattle.parts.specs.declared.bolt.Bolt.{Bolt}
use Rattle.parts.specs.declared.bolt.Size.{Size}
use Rattle.parts.specs.declared.bolt.Size.TheVariants.{M16, M20, M22, M24}
use Rattle.parts.specs.declared.fault.Fault.{Fault}
use Rattle.parts.specs.declared.fault.Fault.TheVariants.{OutOfRange, UnknownSize}
use Rattle.parts.specs.Ranges.{bolt_ranges}
use Rattle.parts.specs.Sizes.{size_number, size_name, size_of}
use Rattle.sheet.specs.Account.{Account}
use Rattle.sheet.specs.Calls.{Bolts, bolt_fault}
use Rattle.sheet.specs.Calls as calls
use Rattle.sheet.specs.Kept.{open_account}
use Rattle.sheet.specs.declared.sheet.open.Open.{Open}
use Rattle.text.specs.declared.cursor.Cursor.{Cursor}
use Rattle.reading.specs.Beginnings.{bolt_named, bolted, account_of}
use Rattle.reading.specs.Fields.{Passed, BoltFields}
use Rattle.reading.specs.Shapes.{BoltShape}
use Rattle.reading.specs.Stages.{Leads, at_bolt, with_bolt}
use Rattle.reading.specs.declared.fault.Cause.TheVariants.{Malformed, Sheet}
use Rattle.reading.specs.declared.fields.BoltLine.{BoltLine}
use Rattle.reading.specs.declared.reader.Reader.{Reader}
use Rattle.reading.proofs.Forward.{next, Wrong}
use Rattle.reading.proofs.Settled.{settled_ok, settled_err, passed_last, failed_last}

abbrev pub bolt_shape : (was now : Cursor) (f : BoltLine) → BoltFields was f now → BoltShape was.rest.now
bolt_shape was now f h = record {
  size = f.size.now;
  stress = f.stress;
  planes = f.planes;
  rest = now.rest.now;
  begins = h.0.begins;
  short = (h.1, h.2);
}

abbrev the_bolt : Size → ℕ → ℕ → Bolt
the_bolt s f p = record { size = s; stress = record { 0 = f }; planes = p }

-- a size's number is its own
size_again : (s : Size) → size_of (size_number s) ≡ Some s
size_again M16 = refl
size_again M20 = refl
size_again M22 = refl
size_again M24 = refl

bolt_says : (b : Bar) (s : Size) (f p k : ℕ) → k ≡ size_number s → bolt_fault (account_of (bolt_named b)) k f p ≡ cond (not (bolt_ranges (the_bolt s f p))) (Some OutOfRange) None
bolt_says b s f p k its = ap (λ n. bolt_fault (account_of (bolt_named b)) n f p) its ∙ simp (size_again s)

bolt_leaves : (b : Bar) (s : Size) (f p k : ℕ) → k ≡ size_number s → calls.bolted (account_of (bolt_named b)) k f p ≡ account_of (bolted b (the_bolt s f p))
bolt_leaves b s f p k its = ap (λ n. calls.bolted (account_of (bolt_named b)) n f p) its ∙ simp (size_again s)

module _ {was : Reader} where
  pub bolt_malformed : (BoltShape was.cursor.rest.now → ⊥) → Wrong at_bolt was Malformed
  bolt_malformed h = record { fault = λ text b at. inl (refl, h) }

  module _ (f : BoltLine) {now : Cursor} (h : BoltFields was.cursor f now) where
    pub bolt_unknown : {g : Fault} → (g ≡ UnknownSize) × ((s : Size) → f.size.now ≢ size_name s) → Wrong at_bolt was (Sheet g)
    bolt_unknown p = record { fault = λ text b at. inr (inl (ap Sheet p.0, (bolt_shape was.cursor now f h, p.1))) }

    module _ (s : Size) (named : f.size.now ≡ size_name s) (k : ℕ) (its : k ≡ size_number s) {r : Result (Unit {0}) Fault} where
      pub bolt_refused : {g : Fault} {a : Account} → Bolts (open_account was.sheet) k f.stress f.planes r a → r ≡ Err g → Wrong at_bolt was (Sheet g)
      bolt_refused {g} {a} call is = record {
        fault = λ text b at.
            let fault = settled_err _ (subst (λ x. Bolts x k f.stress f.planes r a) at.account call) is in
            let o = failed_last (bolt_ranges (the_bolt s f.stress f.planes)) OutOfRange g (sym (bolt_says b s f.stress f.planes k its) ∙ fault) in
            inr (inr (ap Sheet o.1, (bolt_shape was.cursor now f h, s, named, o.0)));
      }

      pub bolt_taken : {new : Open} {u : Unit {0}} → Bolts (open_account was.sheet) k f.stress f.planes r (open_account new) → r ≡ Ok u → Leads at_bolt with_bolt was (Ok tt) (record { cursor = now; sheet = new })
      bolt_taken {new} call is = record {
        goes = λ text b at.
            let bolt = the_bolt s f.stress f.planes in
            let settled = settled_ok _ (subst (λ x. Bolts x k f.stress f.planes r (open_account new)) at.account call) is in (
              (b, bolt),
              next (bolt_named b) (bolted b bolt) at
                  (subst (λ (w : List ℕ). Passed was.cursor (w ∷ decimal f.stress ∷ decimal f.planes ∷ []) now) named h.0)
                  refl (at.lawful, passed_last (bolt_ranges bolt) OutOfRange (sym (bolt_says b s f.stress f.planes k its) ∙ settled.0))
                  (settled.1 ∙ bolt_leaves b s f.stress f.planes k its),
            );
      }
