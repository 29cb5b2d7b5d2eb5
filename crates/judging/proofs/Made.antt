-- What `array::from_fn` makes.
use Rattle.std.proofs.Common.{◌≡◌, ℕ, zero, suc, ◌+◌, ◌<◌, ◌≤◌, List, get_or, ⊎_elim, sym, subst, arith}
use denote.Param.Members.{Mut}
use Rattle.std.specs.Fn.{Called}
use Rattle.std.specs.Array.{IsFromFnResultFrom}
use Rattle.std.proofs.lemmas.Bool.{cases_lt}

-- where each call keeps the closure and answers what P holds of, P holds at each place
module _ {F B : Type 0} (g : Mut F (ℕ × Unit {0}) B) (P : ℕ → B → Type 0) (f : F)
    (says : (i : ℕ) (y : B) (f' : F) → Called g f (i, tt) y f' → (f' ≡ f) × P i y) where
  pub made_from : (ys : List B) (d : B) (i n : ℕ) → IsFromFnResultFrom g f ys i n → (k : ℕ) → i ≤ k → k < i + n → P k (get_or ys k d)
  made_from ys d i zero m k le lt = absurd (omega arith)
  made_from ys d i (suc n) m k le lt =
      let said = says i m.1 m.0 m.3 in
      ⊎_elim
      (λ later. made_from ys d (i + 1) n (subst (λ q. IsFromFnResultFrom g q ys (i + 1) n) said.0 m.4) k (omega arith) (omega arith))
      (λ here. let e : i ≡ k = omega arith in subst (λ j. P j (get_or ys j d)) e (subst (P i) (sym (m.2.1 d)) said.1))
      (cases_lt i k)
