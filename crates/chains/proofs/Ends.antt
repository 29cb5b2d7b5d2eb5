-- The least chain of all, from the least ones that end in each hole.
use Rattle.std.proofs.Common.{◌≡◌, ℕ, zero, suc, ◌<◌, List, [], ◌∷◌, length, ℤ, ◌≤ℤ◌, Some, sym, refl, ap, subst, inl, inr, ⊎_elim, arith}
use borrow.Author.Differences.{ints}
use Rattle.std.proofs.lemmas.Bool.{cases_lt}
use Rattle.parts.specs.declared.hole.Hole.{Hole}
use Rattle.chains.specs.declared.search.Step.{Step}
use Rattle.chains.specs.Chains.{Chain, width}
use Rattle.chains.specs.Least.{NoLater, Least, Once}
use Rattle.chains.specs.Search.{net_at, led, Tells, Full, Slimmest}
use Rattle.chains.proofs.Basics.{real}

-- the steps lead through the least chain from the hole at e on
pub record Found (bar : ℕ) (hs : List Hole) (steps : List Step) (e : ℕ) : Type 0 where
  pub chain : List ℕ
  pub least : Least bar hs chain
  pub wide : net_at steps e ≡ width bar hs chain
  pub leads : led steps (Some e) ≡ chain

module _ (bar : ℕ) (hs : List Hole) (steps : List Step) (full : Full bar hs steps) (all : length steps ≡ length hs) (e : ℕ) (s : Slimmest steps e) where
  abbrev t : Tells bar hs steps e
  t = full e s.below

  -- the least one that ends where a chain ends lies between it and the least of all
  between : (k : ℕ) (ms : List ℕ) → Chain hs (suc k ∷ ms) → (net_at steps k ≤ℤ width bar hs (suc k ∷ ms)) × (net_at steps e ≤ℤ net_at steps k)
  between k ms ch =
      let lt : k < length steps = omega (arith, real hs (suc k) ms ch) in
      let r = full k lt in
      let n = r.ending.narrowest ms ch in
      (omega (arith, ints, r.is), s.least k lt)

  slim : (ms : List ℕ) → Chain hs ms → width bar hs (suc e ∷ t.rest) ≤ℤ width bar hs ms
  slim [] ch = absurd ch
  slim (zero ∷ ms) ch = absurd (omega (arith, real hs zero ms ch))
  slim (suc k ∷ ms) ch = let b = between k ms ch in omega (arith, ints, t.is)

  -- in the same last hole
  same_end : (k : ℕ) (ms : List ℕ) → k ≡ e → Chain hs (suc k ∷ ms) → width bar hs (suc k ∷ ms) ≡ width bar hs (suc e ∷ t.rest) → NoLater t.rest ms
  same_end k ms h ch same =
      subst (λ (n : ℕ). Chain hs (suc n ∷ ms) → width bar hs (suc n ∷ ms) ≡ width bar hs (suc e ∷ t.rest) → NoLater t.rest ms) (sym h) (t.ending.first ms) ch same

  soon : (ms : List ℕ) → Chain hs ms → width bar hs ms ≡ width bar hs (suc e ∷ t.rest) → NoLater (suc e ∷ t.rest) ms
  soon [] ch same = absurd ch
  soon (zero ∷ ms) ch same = absurd (omega (arith, real hs zero ms ch))
  soon (suc k ∷ ms) ch same =
      let b = between k ms ch in
      let lt : k < length steps = omega (arith, real hs (suc k) ms ch) in
      let level : net_at steps k ≡ net_at steps e = omega (arith, ints, t.is) in
      let le = s.first k lt level in
      ⊎_elim (λ l. inl (omega arith)) (λ ge. let eq : k ≡ e = omega arith in inr (ap suc (sym eq), same_end k ms eq ch same)) (cases_lt e k)

  pub found_all : Found bar hs steps e
  found_all =
      record {
        chain = suc e ∷ t.rest;
        least = record { chain = t.ending.chain; narrowest = slim; first = soon };
        wide = t.is;
        leads = t.leads;
      }

-- ---- there is one least chain
no_later_both : (ns ms : List ℕ) → NoLater ns ms → NoLater ms ns → ns ≡ ms
no_later_both [] [] h k = refl
no_later_both [] (m ∷ ms) h k = absurd k
no_later_both (n ∷ ns) [] h k = absurd h
no_later_both (n ∷ ns) (m ∷ ms) h k =
    ⊎_elim
    (λ lt. absurd (⊎_elim (λ l. omega arith) (λ e. omega (arith, e.0)) k))
    (λ e. ⊎_elim (λ l. absurd (omega (arith, e.0))) (λ f. let same = no_later_both ns ms e.1 f.1 in let top = e.0 in cc) k)
    h

pub level : (a b : ℤ) → a ≤ℤ b → b ≤ℤ a → a ≡ b
level a b h k = omega (arith, ints)

pub least_unique : (bar : ℕ) (hs : List Hole) → Once bar hs
least_unique bar hs ns ms l k =
    let e : width bar hs ms ≡ width bar hs ns = level (width bar hs ms) (width bar hs ns) (k.narrowest ns l.chain) (l.narrowest ms k.chain) in
    no_later_both ns ms (l.first ms k.chain e) (k.first ns l.chain (sym e))
