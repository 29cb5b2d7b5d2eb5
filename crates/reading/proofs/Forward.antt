-- One good line further, and the first line that is not.
use Rattle.std.proofs.Common.{◌≡◌, ℕ, ◌+◌, List, [], ◌∷◌, ◌++◌, reverse, length, Ok, Err, Some, None, Option, MatchOption, Result, IsErrAnd, MatchResult, sym, refl, ap, ◌∙◌, subst, append_assoc, arith}
use Rattle.std.specs.List.{flat_map}
use Rattle.std.specs.Option.{ok_or}
use Rattle.std.proofs.lemmas.List.{flat_map_more, reverse-append}
use Rattle.std.proofs.lemmas.Result.{err_from_is_err_and}
use Rattle.text.specs.Words.{line}
use Rattle.sheet.specs.Kept.{open_account}
use Rattle.text.proofs.Lines.{line_is}
use Rattle.reading.specs.Beginnings.{Beginning, lines, written, account_of, Lawful}
use Rattle.reading.specs.Fields.{Passed}
use Rattle.reading.specs.LineFaults.{LineFault}
use Rattle.reading.specs.Reads.{FaultyLine}
use Rattle.reading.specs.Stages.{At, Leads, on_line, LineLeads}
use Rattle.reading.specs.declared.fault.Cause.{Cause}
use Rattle.reading.specs.declared.fault.ReadFault.{ReadFault}
use Rattle.reading.specs.declared.reader.Reader.{Reader}

-- the text of one line more
pub one_more : (ls : List (List (List ℕ))) (ws : List (List ℕ)) (rest : List ℕ) → flat_map line (reverse (ws ∷ ls)) ++ rest ≡ flat_map line (reverse ls) ++ (line ws ++ rest)
one_more ls ws rest =
    ap (λ l. flat_map line l ++ rest) (reverse-append (ws ∷ []) ls) ∙ ap (λ l. l ++ rest) (sym (flat_map_more line [] (reverse ls) ws)) ∙ append_assoc (flat_map line (reverse ls)) (line ws) rest

pub next : {text : List ℕ} (b d : Beginning) {was now : Reader} {ws : List (List ℕ)} → At text b was → Passed was.cursor ws now.cursor → lines d ≡ ws ∷ lines b → Lawful d → open_account now.sheet ≡ account_of d → At text d now
next {text} b d {was} {now} {ws} at p more good says = record {
  short = at.short;
  lawful = good;
  is =
      at.is ∙ ap (λ t. written b ++ t) (line_is p.begins) ∙ sym (one_more (lines b) ws now.cursor.rest.now)
      ∙ ap (λ ls. flat_map line (reverse ls) ++ now.cursor.rest.now) (sym more);
  line = omega (arith, p.count, at.line, ap length more);
  account = says;
}

pub faulty_line : {text : List ℕ} (b : Beginning) {was : Reader} {e : ReadFault} → At text b was → e.line ≡ was.cursor.line + 1 → LineFault b was.cursor.rest.now e.cause → FaultyLine text e
faulty_line b {was} at on cause = record {
  short = at.short;
  before = b;
  rest = was.cursor.rest.now;
  lawful = at.lawful;
  is = at.is;
  line = omega (arith, on, at.line);
  cause = cause;
}

infixr 5 ◌then◌
-- one part after another
pub ◌then◌ : {X Y Z : Type 0} {from : X → Beginning} {by : Y → Beginning} {to : Z → Beginning} {was mid now : Reader} {u : Unit {0}} {r : Result (Unit {0}) ReadFault}
    → Leads from by was (Ok u) mid → Leads by to mid r now → Leads from to was r now
◌then◌ p q = record { goes = λ text x at. let y = p.goes text x at in q.goes text y.0 y.1 }

-- a part by what it answered
pub answered : {X Y : Type 0} {from : X → Beginning} {to : Y → Beginning} {was now : Reader} {r s : Result (Unit {0}) ReadFault} → Leads from to was r now → r ≡ s → Leads from to was s now
answered {X} {Y} {from} {to} {was} {now} p is = subst (λ x. Leads from to was x now) is p

-- a part that breaks off is told as it is
pub broke : {X Y Z : Type 0} {from : X → Beginning} {by : Y → Beginning} {to : Z → Beginning} {was mid now : Reader} {e : ReadFault} {r : Result (Unit {0}) ReadFault}
    → Leads from by was (Err e) mid → IsErrAnd r (λ y. y ≡ e) → Leads from to was r now
broke {X} {Y} {Z} {from} {by} {to} {was} {mid} {now} {e} {r} p is =
    let told = err_from_is_err_and r is in
    subst (λ x. Leads from to was x now) (sym told.1)
    (subst (λ x. Leads from to was (Err x) now) (sym told.2) (record { goes = p.goes }))

-- what is wrong with the line that is due at a stage
pub record Wrong {X : Type 0} (from : X → Beginning) (was : Reader) (c : Cause) : Type 0 where
  pub fault : (text : List ℕ) (x : X) → At text (from x) was → LineFault (from x) was.cursor.rest.now c

pub wrong : {X Y : Type 0} {from : X → Beginning} {to : Y → Beginning} {was now : Reader} {c : Cause} → Wrong from was c → Leads from to was (Err (record { cause = c; line = was.cursor.line + 1 })) now
wrong {from = from} p = record { goes = λ text x at. faulty_line (from x) at refl (p.fault text x at) }

-- it is told with the line's number
pub wrong_line : {X Y : Type 0} {from : X → Beginning} {to : Y → Beginning} {was now : Reader} {c : Cause} (r : Result (Unit {0}) Cause)
    → Wrong from was c → IsErrAnd r (λ y. y ≡ c) → LineLeads from to was r now
wrong_line {X} {Y} {from} {to} {was} {now} {c} r p is =
    let told = err_from_is_err_and r is in
    subst (λ x. Leads from to was (on_line (was.cursor.line + 1) x) now) (sym told.1)
    (subst (λ x. Leads from to was (on_line (was.cursor.line + 1) (Err x)) now) (sym told.2) (wrong p))

-- a line whose answer is told with its number
pub lined : {X Y : Type 0} {from : X → Beginning} {to : Y → Beginning} {was now : Reader} (r : Result (Unit {0}) Cause) {y : Result (Unit {0}) ReadFault}
    → LineLeads from to was r now → y ≡ on_line (was.cursor.line + 1) r → Leads from to was y now
lined r p told = answered p (sym told)

pub told_on : (n : ℕ) (r : Result (Unit {0}) Cause) (y : Result (Unit {0}) ReadFault) → MatchResult r (λ u. y ≡ Ok u) (λ c. IsErrAnd y (λ e. e ≡ record { cause = c; line = n })) → y ≡ on_line n r
told_on n (Ok u) y h = h
told_on n (Err c) y h =
    let told = err_from_is_err_and y h in
    told.1 ∙ ap Err told.2

-- a line that an `ok_or` ends, where there was none
pub none_wrong : {X T P : Type 0} (Q : T → Type 0) {from : X → Beginning} {was : Reader} (o : Option T) {c y : Cause} → MatchOption o P Q → Err y ≡ ok_or o c → (P → Wrong from was c) → Wrong from was y
none_wrong {X} {T} {P} Q {from} {was} None {c} {y} h is p = let same : c ≡ y = cc in subst (λ e. Wrong from was e) same (p h)
none_wrong Q (Some x) h is p = absurd (let z : ◌≡◌ {A = ℕ} 0 1 = cc in omega arith)
