-- What rounding the stagger terms costs.
use Rattle.std.proofs.Common.{◌≡◌, ℕ, suc, ◌+◌, ◌*◌, ◌/◌, ◌<◌, ◌≤◌, List, [], ◌∷◌, length, ℤ, pos, ◌+ℤ◌, ◌-ℤ◌, ◌*ℤ◌, ◌≤ℤ◌, sym, ap, ◌∙◌, subst, le_refl, mul_assoc, mul_comm, add-mul, mul-le-mul, div-mul-le_self, arith}
use native.Mathlib.Nat.{lt-div-mul-add}
use borrow.Author.Differences.{ints, up, down, le_out}
use Rattle.parts.specs.declared.hole.Hole.{Hole}
use Rattle.chains.specs.Chains.{the, Chain, gage, square, terms, cuts, width}
use Rattle.chains.specs.Least.{Least}
use Rattle.chains.specs.Rounding.{gages, exact_terms, exact_width, Rounded}
use Rattle.chains.specs.Search.{Ready}
use Rattle.chains.proofs.Basics.{chain_few}

-- ---- one more neighbour: q is a / g, rounded down
module _ (a g q p S E k : ℕ) where
  one_low : q * g ≤ a → S * p ≤ E → (q + S) * (g * p) ≤ a * p + g * E
  one_low h l =
      let left : q * g * p ≤ a * p = mul-le-mul h (le_refl p) in
      let right : g * (S * p) ≤ g * E = mul-le-mul (le_refl g) l in
      let turn : S * (g * p) ≡ g * (S * p) = sym (mul_assoc S g p) ∙ ap (λ (t : ℕ). t * p) (mul_comm S g) ∙ mul_assoc g S p in
      omega (arith, add-mul q S (g * p), mul_assoc q g p)

  one_high : a ≤ q * g + g → E ≤ (S + k) * p → a * p + g * E ≤ (q + S + suc k) * (g * p)
  one_high h l =
      let left : a * p ≤ (q * g + g) * p = mul-le-mul h (le_refl p) in
      let right : g * E ≤ g * ((S + k) * p) = mul-le-mul (le_refl g) l in
      let turn : (S + k) * (g * p) ≡ g * ((S + k) * p) = sym (mul_assoc (S + k) g p) ∙ ap (λ (t : ℕ). t * p) (mul_comm (S + k) g) ∙ mul_assoc g (S + k) p in
      let sum : (q + S + suc k) * (g * p) ≡ (q * (g * p) + g * p) + (S + k) * (g * p) =
      ap (λ (t : ℕ). t * (g * p)) (omega arith) ∙ add-mul (q + 1) (S + k) (g * p) ∙ ap (λ (t : ℕ). t + (S + k) * (g * p)) (omega (arith, add-mul q 1 (g * p))) in
      omega (arith, add-mul (q * g) g p, mul_assoc q g p)

-- ---- a chain's terms
terms_low : (hs : List Hole) (ns : List ℕ) → Chain hs ns → terms hs ns * gages hs ns ≤ exact_terms hs ns
terms_low hs [] ch = absurd ch
terms_low hs (n ∷ []) ch = omega arith
terms_low hs (n ∷ m ∷ ns) ch =
    let a = square (the hs m) (the hs n) in
    let g = gage (the hs m) (the hs n) in
    one_low a g (a / g) (gages hs (m ∷ ns)) (terms hs (m ∷ ns)) (exact_terms hs (m ∷ ns)) 0 (div-mul-le_self a g) (terms_low hs (m ∷ ns) ch.3)

terms_high : (hs : List Hole) (n : ℕ) (ns : List ℕ) → Chain hs (n ∷ ns) → exact_terms hs (n ∷ ns) ≤ (terms hs (n ∷ ns) + length ns) * gages hs (n ∷ ns)
terms_high hs n [] ch = omega arith
terms_high hs n (m ∷ ns) ch =
    let a = square (the hs m) (the hs n) in
    let g = gage (the hs m) (the hs n) in
    let wide : 0 < g = omega (arith, ch.2) in
    let up' : a ≤ a / g * g + g = omega (arith, lt-div-mul-add {a = a} wide) in
    one_high a g (a / g) (gages hs (m ∷ ns)) (terms hs (m ∷ ns)) (exact_terms hs (m ∷ ns)) (length ns) up' (terms_high hs m ns ch.3)

-- ---- integers times a natural
times : (a b : ℤ) (p : ℕ) → a ≤ℤ b → (a *ℤ pos p) ≤ℤ (b *ℤ pos p)
times a b p h =
    let m : (up a + down b) * p ≤ (up b + down a) * p = mul-le-mul (le_out a b h) (le_refl p) in
    omega (arith, ints, add-mul (up a) (down b) p, add-mul (up b) (down a) p)

spread : (A C p : ℕ) → (pos A -ℤ pos C) *ℤ pos p ≡ pos (A * p) -ℤ pos (C * p)
spread A C p =
    let z = pos A -ℤ pos C in
    let e : up z + C ≡ A + down z = omega (arith, ints) in
    let m : (up z + C) * p ≡ (A + down z) * p = ap (λ (t : ℕ). t * p) e in
    omega (arith, ints, add-mul (up z) C p, add-mul A (down z) p)

join_low : (x y : ℤ) (m k n : ℕ) → x ≤ℤ y → y ≡ pos m -ℤ pos n → m ≤ k → x ≤ℤ (pos k -ℤ pos n)
join_low x y m k n h e l = omega (arith, ints)

join_high : (y : ℤ) (m k n : ℕ) → y ≡ pos m -ℤ pos n → k ≤ m → (pos k -ℤ pos n) ≤ℤ y
join_high y m k n e l = omega (arith, ints)

raised : (A C k : ℕ) → (pos A -ℤ pos C) +ℤ pos k ≡ pos (A + k) -ℤ pos C
raised A C k = omega (arith, ints)

-- ---- the law
module _ (bar : ℕ) (hs : List Hole) (ok : Ready bar hs) where
  none : (ns ms : List ℕ) → Least bar hs ns → Chain hs ms → (width bar hs ns *ℤ pos (gages hs ms)) ≤ℤ exact_width bar hs ms
  none ns ms l ch =
      let p = gages hs ms in
      let A = 1000 * bar + terms hs ms in
      join_low _ _ (A * p) (1000 * bar * p + exact_terms hs ms) (cuts hs ms * p)
      (times (width bar hs ns) (width bar hs ms) p (l.narrowest ms ch))
      (spread A (cuts hs ms) p)
      (omega (arith, terms_low hs ms ch, add-mul (1000 * bar) (terms hs ms) p))

  some : (ns : List ℕ) → Chain hs ns → exact_width bar hs ns ≤ℤ ((width bar hs ns +ℤ pos 31) *ℤ pos (gages hs ns))
  some [] ch = absurd ch
  some (n ∷ ns) ch =
      let cs = n ∷ ns in
      let p = gages hs cs in
      let S = terms hs cs in
      let A = 1000 * bar + S in
      let few : (S + length ns) * p ≤ (S + 31) * p = mul-le-mul (omega (arith, chain_few bar hs ok cs ch)) (le_refl p) in
      let sum : (A + 31) * p ≡ 1000 * bar * p + (S + 31) * p = ap (λ (t : ℕ). t * p) (omega arith) ∙ add-mul (1000 * bar) (S + 31) p in
      join_high _ ((A + 31) * p) (1000 * bar * p + exact_terms hs cs) (cuts hs cs * p)
      (ap (λ (z : ℤ). z *ℤ pos p) (raised A (cuts hs cs) 31) ∙ spread (A + 31) (cuts hs cs) p)
      (omega (arith, terms_high hs n ns ch, few, sum))

  pub rounded : (ns : List ℕ) → Least bar hs ns → (net : ℤ) → net ≡ width bar hs ns → Rounded bar hs net
  rounded ns l net e =
      subst (Rounded bar hs) (sym e) (record { above_none = λ ms. none ns ms l; near = ns; near_chain = l.chain; near_some = some ns l.chain })
