-- Each text has one answer.
use Rattle.std.proofs.Common.{◌≡◌, ℕ, ◌+◌, List, length, Ok, Err, sym, ap, ◌∙◌, subst, inl, inr, arith}
use Rattle.sheet.specs.Account.{Account}
use Rattle.reading.specs.Beginnings.{Beginning, nothing, loading, lines, written, account_of}
use Rattle.reading.specs.LineFaults.{LineFault}
use Rattle.reading.specs.Reads.{Accepted, FaultyLine, Refused, OneAnswer}
use Rattle.reading.specs.declared.fault.ReadFault.{ReadFault}
use Rattle.reading.proofs.Paths.{Path, Ended, one_end, reached, good_no_fault, fault_once}

-- where an accepted text ends, and where a faulty line stands, no good line follows
abbrev last : {text : List ℕ} {n : ℕ} {a : Account} → Accepted text n a → Beginning
last x = loading x.bar x.bolt x.holes x.loads

accepted_path : {text : List ℕ} {n : ℕ} {a : Account} (x : Accepted text n a) → Path nothing text (last x) x.rest
accepted_path {text} x = reached text (last x) x.lawful x.rest x.is

accepted_ended : {text : List ℕ} {n : ℕ} {a : Account} (x : Accepted text n a) → Ended (last x) x.rest
accepted_ended x d q g = omega (arith, x.seven, g.1)

faulty_path : {text : List ℕ} {e : ReadFault} (x : FaultyLine text e) → Path nothing text x.before x.rest
faulty_path {text} x = reached text x.before x.lawful x.rest x.is

faulty_ended : {text : List ℕ} {e : ReadFault} (x : FaultyLine text e) → Ended x.before x.rest
faulty_ended {text} {e} x d q g = good_no_fault x.before x.rest q d e.cause g x.cause

two_accepted : {text : List ℕ} {m n : ℕ} {a b : Account} → Accepted text m a → Accepted text n b → (m ≡ n) × (a ≡ b)
two_accepted x y =
    let o = one_end (accepted_path x) (accepted_path y) (accepted_ended x) (accepted_ended y) in
    (x.took ∙ ap (λ d. length (written d)) o.0 ∙ sym y.took, x.account ∙ ap account_of o.0 ∙ sym y.account)

-- a text is not both
not_both : {text : List ℕ} {n : ℕ} {a : Account} {e : ReadFault} → Accepted text n a → FaultyLine text e → ⊥
not_both {text} {n} {a} {e} x y =
    let o = one_end (accepted_path x) (faulty_path y) (accepted_ended x) (faulty_ended y) in
    let f : LineFault (last x) y.rest e.cause = subst (λ d. LineFault d y.rest e.cause) (sym o.0) y.cause in
    omega (arith, x.seven, f.0)

two_faults : {text : List ℕ} {e f : ReadFault} → FaultyLine text e → FaultyLine text f → e ≡ f
two_faults {text} {e} {f} x y =
    let o = one_end (faulty_path x) (faulty_path y) (faulty_ended x) (faulty_ended y) in
    let c : LineFault x.before x.rest f.cause =
    subst (λ d. LineFault d x.rest f.cause) (sym o.0) (subst (λ t. LineFault y.before t f.cause) (sym o.1) y.cause) in
    let cause = fault_once x.before x.rest e.cause f.cause x.cause c in
    let on = x.line ∙ ap (λ d. length (lines d) + 1) o.0 ∙ sym y.line in
    λ i. record { cause = cause i; line = on i }

two_refused : {text : List ℕ} {e f : ReadFault} → Refused text e → Refused text f → e ≡ f
two_refused {text} {e} {f} (inl x) (inl y) =
    let cause = x.1 ∙ sym y.1 in
    let on = x.2 ∙ sym y.2 in
    λ i. record { cause = cause i; line = on i }
two_refused (inl x) (inr y) = absurd (omega (arith, y.short))
two_refused (inr x) (inl y) = absurd (omega (arith, x.short))
two_refused (inr x) (inr y) = two_faults x y

never : {text : List ℕ} {n : ℕ} {a : Account} {e : ReadFault} → Accepted text n a → Refused text e → ⊥
never x (inl y) = omega (arith, x.short)
never x (inr y) = not_both x y

pub one_answer : OneAnswer
one_answer text old (Ok m) (Ok n) a b x y = let o = two_accepted x y in (ap Ok o.0, o.1)
one_answer text old (Ok m) (Err f) a b x y = absurd (never x y.0)
one_answer text old (Err e) (Ok n) a b x y = absurd (never y x.0)
one_answer text old (Err e) (Err f) a b x y = (ap Err (two_refused x.0 y.0), x.1 ∙ sym y.1)
