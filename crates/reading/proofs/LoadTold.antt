-- What the sheet says of a load's line.
use Rattle.std.proofs.Common.{◌≡◌, ℕ, ◌+◌, ◌<◌, Bool, true, false, cond, not, List, [], ◌∷◌, length, get_or, set, ℤ, pos, negsuc, Ok, Err, Some, None, Result, sym, refl, ap, ◌∙◌, subst, inl, inr, arith, to_z-of_z, w32, SFits, to_z, of_z, Bor}
use Rattle.std.proofs.lemmas.Int.{ints}
use Rattle.std.specs.Fmt.{signed_decimal}
use Rattle.parts.specs.declared.fault.Fault.{Fault}
use Rattle.parts.specs.declared.fault.Fault.TheVariants.{UnknownLoad, LoadOutOfRange}
use Rattle.parts.specs.declared.load.LoadKind.{LoadKind}
use Rattle.parts.specs.LoadKinds.{letter_of, kind_number}
use Rattle.sheet.specs.Account.{Account}
use Rattle.sheet.specs.Calls.{Loads, load_fault, loaded}
use Rattle.sheet.specs.Kept.{open_account}
use Rattle.sheet.specs.Law.{bearable}
use Rattle.sheet.specs.declared.sheet.open.Open.{Open}
use Rattle.text.specs.Figures.{Nine}
use Rattle.text.specs.declared.cursor.Cursor.{Cursor}
use Rattle.reading.specs.Beginnings.{loading, account_of}
use Rattle.reading.specs.Fields.{Passed, LoadFields}
use Rattle.reading.specs.LineFaults.{Names}
use Rattle.reading.specs.Shapes.{LoadShape}
use Rattle.reading.specs.Stages.{Leads, Loaded, with_loads}
use Rattle.reading.specs.declared.fault.Cause.TheVariants.{Malformed, LetterAgain, Sheet}
use Rattle.reading.specs.declared.reader.Reader.{Reader}
use Rattle.reading.proofs.Forward.{next, Wrong}
use Rattle.reading.proofs.Letters.{kind_again, marks_more}
use Rattle.reading.proofs.Settled.{settled_ok, settled_err, passed_last, failed_last}

abbrev pub load_shape : (was now : Cursor) (f : Bor (List ℕ) × ℤ) → LoadFields was f now → LoadShape was.rest.now
load_shape was now f h = record { name = f.0.now; value = f.1; rest = now.rest.now; begins = h.0.begins; short = h.1 }

load_says : (k : LoadKind) (z : ℤ) → load_fault (letter_of k) z ≡ cond (not (bearable z)) (Some LoadOutOfRange) None
load_says k z = simp (kind_again k)

load_tells : (k : LoadKind) (letter : ℕ) (z : ℤ) → letter ≡ letter_of k → load_fault letter z ≡ cond (not (bearable z)) (Some LoadOutOfRange) None
load_tells k letter z lets = ap (λ n. load_fault n z) lets ∙ load_says k z

load_leaves : (k : LoadKind) (z : ℤ) (i : ℕ) (seen : List Bool) (d : Loaded i seen) → loaded (account_of (with_loads i seen d)) (letter_of k) z ≡ account_of (loading d.bar d.bolt d.holes ((k, z) ∷ d.loads))
load_leaves k z i seen d = simp (kind_again k)

fits : (z : ℤ) → Nine z → SFits w32 z
fits (pos n) h = omega (arith, ints)
fits (negsuc n) h = omega (arith, ints)

-- at most nine figures fit 32 bits
pub through : (z : ℤ) → Nine z → to_z w32 (of_z w32 z) ≡ z
through z h = to_z-of_z (fits z h)

module _ (i : ℕ) (room : i < 7) (seen : List Bool) {was : Reader} where
  pub load_malformed : (LoadShape was.cursor.rest.now → ⊥) → Wrong (with_loads i seen) was Malformed
  load_malformed h = record { fault = λ text d at. (omega (arith, d.many), inl (refl, h)) }

  module _ (f : Bor (List ℕ) × ℤ) {now : Cursor} (h : LoadFields was.cursor f now) where
    pub load_unknown : {g : Fault} → (g ≡ UnknownLoad) × ((k : LoadKind) → Names f.0.now k → ⊥) → Wrong (with_loads i seen) was (Sheet g)
    load_unknown p = record { fault = λ text d at. (omega (arith, d.many), inr (inl (ap Sheet p.0, (load_shape was.cursor now f h, p.1)))) }

    module _ (k : LoadKind) (named : Names f.0.now k) (m : ℕ) (its : m ≡ kind_number k) where
      pub load_again : get_or seen m false ≡ true → Wrong (with_loads i seen) was LetterAgain
      load_again again = record {
        fault = λ text d at. (
          omega (arith, d.many),
          inr (inr (inl (refl, (load_shape was.cursor now f h, k, named, d.marks.stood k (subst (λ (n : ℕ). get_or seen n false ≡ true) its again))))),
        );
      }

      module _ (new : get_or seen m false ≡ false) (letter : ℕ) (lets : letter ≡ letter_of k) (z : ℤ) (same : z ≡ f.1) {r : Result (Unit {0}) Fault} where
        pub load_refused : {g : Fault} {a : Account} → Loads (open_account was.sheet) letter z r a → r ≡ Err g → Wrong (with_loads i seen) was (Sheet g)
        load_refused {g} {a} call is = record {
          fault = λ text d at.
              let new_letter = d.marks.fresh k (subst (λ (n : ℕ). get_or seen n false ≡ false) its new) in
              let fault = settled_err _ (subst (λ x. Loads x letter f.1 r a) at.account (subst (λ (n : ℤ). Loads (open_account was.sheet) letter n r a) same call)) is in
              let o = failed_last (bearable f.1) LoadOutOfRange g (sym (load_tells k letter f.1 lets) ∙ fault) in
              (omega (arith, d.many), inr (inr (inr (ap Sheet o.1, (load_shape was.cursor now f h, k, named, new_letter, o.0)))));
        }

        pub load_taken : {after : Open} {u : Unit {0}} → Loads (open_account was.sheet) letter z r (open_account after) → r ≡ Ok u → Leads (with_loads i seen) (with_loads (i + 1) (set seen m true)) was (Ok tt) (record { cursor = now; sheet = after })
        load_taken {after} call is = record {
          goes = λ text d at.
              let l = at.lawful in
              let before : length d.loads < 7 = omega (arith, d.many) in
              let new_letter = d.marks.fresh k (subst (λ (n : ℕ). get_or seen n false ≡ false) its new) in
              let settled = settled_ok _ (subst (λ x. Loads x letter f.1 r (open_account after)) at.account (subst (λ (n : ℤ). Loads (open_account was.sheet) letter n r (open_account after)) same call)) is in (
                record {
                  bar = d.bar;
                  bolt = d.bolt;
                  holes = d.holes;
                  loads = (k, f.1) ∷ d.loads;
                  many = omega (arith, d.many);
                  marks = rw its (marks_more seen d.loads k f.1 d.marks);
                },
                next (with_loads i seen d) (loading d.bar d.bolt d.holes ((k, f.1) ∷ d.loads)) at
                    (subst (λ (w : List ℕ). Passed was.cursor (w ∷ signed_decimal f.1 ∷ []) now) named h.0)
                    refl (l.0, l.1, l.2, l.3, (l.4, before, new_letter, passed_last (bearable f.1) LoadOutOfRange (sym (load_tells k letter f.1 lets) ∙ settled.0)))
                    (settled.1 ∙ ap (λ n. loaded (account_of (with_loads i seen d)) n f.1) lets ∙ load_leaves k f.1 i seen d),
              );
        }
