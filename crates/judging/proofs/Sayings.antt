-- What is said of a joint: one of three, by the least row, the greatest and the least strength.
use Rattle.std.proofs.Common.{◌≡◌, ℕ, Bool, true, false, cond, ℤ, pos, ◌≤ℤ◌, ◌<ℤ◌, sym, refl, arith}
use lib.Signed.{lt_z}
use Rattle.std.proofs.lemmas.Int.{ints}
use Rattle.judging.specs.Judging.{Exactly}
use Rattle.judging.specs.Weighing.{kind_of}
use Rattle.judging.specs.declared.judgment.Kind.{Kind}
use Rattle.judging.specs.declared.judgment.Kind.TheVariants.{Passes, Overstressed, Reverses}

none_passes : (a b : Bool) → cond a Reverses (cond b Overstressed Passes) ≡ Passes → (a ≡ false) × (b ≡ false)
none_passes true b e = let z : ◌≡◌ {A = ℕ} 0 1 = cc in absurd (omega arith)
none_passes false true e = let z : ◌≡◌ {A = ℕ} 0 1 = cc in absurd (omega arith)
none_passes false false e = (refl, refl)

first_reverses : (a b : Bool) → cond a Reverses (cond b Overstressed Passes) ≡ Reverses → a ≡ true
first_reverses true b e = refl
first_reverses false true e = let z : ◌≡◌ {A = ℕ} 0 1 = cc in absurd (omega arith)
first_reverses false false e = let z : ◌≡◌ {A = ℕ} 0 1 = cc in absurd (omega arith)

module _ (l g s : ℤ) where
  pub safe_said : kind_of l g s ≡ Passes → (pos 0 ≤ℤ l) × (g ≤ℤ s)
  safe_said e =
      let p = none_passes (lt_z l (pos 0)) (lt_z s g) e in
      (grind (arith, ints), grind (arith, ints))

  pub said_safe : pos 0 ≤ℤ l → g ≤ℤ s → kind_of l g s ≡ Passes
  said_safe p q =
      let a : lt_z l (pos 0) ≡ false = grind (arith, ints) in
      let b : lt_z s g ≡ false = grind (arith, ints) in
      rw (a, b)

  pub reversal_said : kind_of l g s ≡ Reverses → l <ℤ pos 0
  reversal_said e = let p = first_reverses (lt_z l (pos 0)) (lt_z s g) e in grind (arith, ints)

  pub said_reversal : l <ℤ pos 0 → kind_of l g s ≡ Reverses
  said_reversal h = let a : lt_z l (pos 0) ≡ true = grind (arith, ints) in rw a

-- the third is said exactly when neither of the others is
pub neither : (k : Kind) (P Q : Type 0) → Exactly (k ≡ Passes) P → Exactly (k ≡ Reverses) Q → Exactly (k ≡ Overstressed) ((P → ⊥) × (Q → ⊥))
neither Passes P Q p q = ((λ e. let z : ◌≡◌ {A = ℕ} 0 1 = cc in absurd (omega arith)), λ h. absurd (h.0 (p.0 refl)))
neither Reverses P Q p q = ((λ e. let z : ◌≡◌ {A = ℕ} 0 1 = cc in absurd (omega arith)), λ h. absurd (h.1 (q.0 refl)))
neither Overstressed P Q p q =
    ((λ _. ((λ x. let e = p.1 x in let z : ◌≡◌ {A = ℕ} 0 1 = cc in omega arith), λ x. let e = q.1 x in let z : ◌≡◌ {A = ℕ} 0 1 = cc in omega arith)), λ _. refl)

-- and so it is one
pub said_once : (k m : Kind) (P Q R : Type 0) → Exactly (k ≡ Passes) P → Exactly (m ≡ Passes) P → Exactly (k ≡ Reverses) Q → Exactly (m ≡ Reverses) Q
    → Exactly (k ≡ Overstressed) R → Exactly (m ≡ Overstressed) R → k ≡ m
said_once Passes m P Q R p p' q q' r r' = sym (p'.1 (p.0 refl))
said_once Reverses m P Q R p p' q q' r r' = sym (q'.1 (q.0 refl))
said_once Overstressed m P Q R p p' q q' r r' = sym (r'.1 (r.0 refl))
