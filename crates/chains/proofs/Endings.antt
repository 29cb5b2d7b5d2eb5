-- The step of the search: the least chains that end in earlier holes give the least that ends in the next.
use Rattle.std.proofs.Common.{◌≡◌, ℕ, zero, suc, ◌<◌, ◌≤◌, List, [], ◌∷◌, ◌++◌, length, ℤ, ◌≤ℤ◌, Option, None, Some, sym, refl, ap, ◌∙◌, subst, inl, inr, ⊎_elim, add-one, arith}
use borrow.Author.Differences.{ints}
use Rattle.std.proofs.lemmas.List.{get_or_append_left, get_or_push, length_push}
use Rattle.std.proofs.lemmas.Bool.{cases_lt}
use Rattle.parts.specs.declared.hole.Hole.{Hole}
use Rattle.chains.specs.declared.search.Step.{Step}
use Rattle.chains.specs.Chains.{Chain, width}
use Rattle.chains.specs.Least.{NoLater}
use Rattle.chains.specs.Search.{Ready, no_step, number, Falling, led_within, led, May, reach, Picks, Ending, Tells, Full}
use Rattle.chains.proofs.Basics.{real, tip, early}
use Rattle.chains.proofs.Led.{led_enough, led_kept}

number_once : (p q : Option ℕ) → number p ≡ number q → p ≡ q
number_once None None e = refl
number_once None (Some j) e = absurd (omega arith)
number_once (Some i) None e = absurd (omega arith)
number_once (Some i) (Some j) e = let same : i ≡ j = omega arith in ap Some same

-- a smaller number decides at once
under : (p : Option ℕ) (ns ms : List ℕ) → tip ns ≡ p → number p < number (tip ms) → NoLater ns ms
under p [] ms t lt = tt
under p (n ∷ ns) [] t lt = absurd (omega arith)
under p (n ∷ ns) (zero ∷ ms) t lt = absurd (omega arith)
under p (zero ∷ ns) (suc m ∷ ms) t lt = inl (omega arith)
under p (suc n ∷ ns) (suc m ∷ ms) t lt = inl (omega (arith, ap number t))

pub full_falls : (bar : ℕ) (hs : List Hole) (steps : List Step) → Full bar hs steps → Falling steps
full_falls bar hs steps full j h = (full j h).falls

module _ (bar : ℕ) (hs : List Hole) (steps : List Step) (ok : Ready bar hs) (full : Full bar hs steps) where
  abbrev i : ℕ
  i = length steps

  -- no chain is narrower than the least behind its last number but one
  above : (ms : List ℕ) → Chain hs (suc i ∷ ms) → reach bar hs steps (suc i) (tip ms) ≤ℤ width bar hs (suc i ∷ ms)
  above [] ch = omega (arith, ints)
  above (zero ∷ ms) ch = absurd (omega (arith, real hs zero ms ch.3))
  above (suc j ∷ ms) ch =
      let b = early bar hs ok i (suc j ∷ ms) ch in
      let t = full j (omega arith) in
      omega (arith, ints, t.is, t.ending.narrowest ms ch.3)

  -- the tail that a pick stands for
  record Tail (p : Option ℕ) (w : ℤ) : Type 0 where
    rest : List ℕ
    leads : led steps p ≡ rest
    tips : tip rest ≡ p
    is : w ≡ width bar hs (suc i ∷ rest)
    chain : Chain hs (suc i ∷ rest)
    later : (ms : List ℕ) → Chain hs (suc i ∷ ms) → tip ms ≡ p → width bar hs (suc i ∷ ms) ≡ w → NoLater rest ms

  module _ (j : ℕ) (w : ℤ) (t : Tells bar hs steps j) (is : w ≡ reach bar hs steps (suc i) (Some j)) where
    behind : (ms : List ℕ) → Chain hs (suc i ∷ suc j ∷ ms) → width bar hs (suc i ∷ suc j ∷ ms) ≡ w → NoLater (suc j ∷ t.rest) (suc j ∷ ms)
    behind ms ch e =
        let same : width bar hs (suc j ∷ ms) ≡ width bar hs (suc j ∷ t.rest) = omega (arith, ints, t.is) in
        inr (refl, t.ending.first ms ch.3 same)

    after : (ms : List ℕ) → Chain hs (suc i ∷ ms) → tip ms ≡ Some j → width bar hs (suc i ∷ ms) ≡ w → NoLater (suc j ∷ t.rest) ms
    after [] ch h e = absurd (omega (arith, ap number h))
    after (zero ∷ ms) ch h e = absurd (omega (arith, ap number h))
    after (suc k ∷ ms) ch h e =
        let same : j ≡ k = omega (arith, ap number h) in
        subst (λ (n : ℕ). Chain hs (suc i ∷ suc n ∷ ms) → width bar hs (suc i ∷ suc n ∷ ms) ≡ w → NoLater (suc j ∷ t.rest) (suc n ∷ ms)) same (behind ms) ch e

  tail : (p : Option ℕ) (w : ℤ) → suc i ≤ length hs → number p ≤ i → May hs (suc i) p → w ≡ reach bar hs steps (suc i) p → Tail p w
  tail None w h le may is = record {
    rest = [];
    leads = none i;
    tips = refl;
    is = omega (arith, ints);
    chain = (omega arith, h);
    later = λ ms ch e f. tt;
  }
    where
      none : (n : ℕ) → led_within steps n None ≡ []
      none zero = refl
      none (suc n) = refl
  tail (Some j) w h le may is =
      let t = full j le in
      record {
        rest = suc j ∷ t.rest;
        leads = t.leads;
        tips = refl;
        is = omega (arith, ints, t.is);
        chain = (omega arith, h, may, t.ending.chain);
        later = after j w t is;
      }

  ordered : (p : Option ℕ) (w : ℤ) (t : Tail p w) (ms : List ℕ) → number p ≤ number (tip ms) → Chain hs (suc i ∷ ms) → width bar hs (suc i ∷ ms) ≡ w → NoLater t.rest ms
  ordered p w t ms le ch e =
      ⊎_elim (λ lt. under p t.rest ms t.tips lt)
      (λ ge. t.later ms ch (number_once (tip ms) p (omega arith)) e) (cases_lt (number p) (number (tip ms)))

  module _ (s : Step) (h : i < length hs) (k : Picks bar hs steps (suc i) i s) where
    picked : Tail s.before s.net.0
    picked = tail s.before s.net.0 h k.below k.may k.is

    ended : Ending bar hs (suc i) picked.rest
    ended =
        let t = picked in
        record {
          chain = t.chain;
          narrowest = λ ms ch. let e = early bar hs ok i ms ch in omega (arith, ints, t.is, k.least (tip ms) e.1 e.2, above ms ch);
          first = λ ms ch same.
              let e = early bar hs ok i ms ch in
              let a = above ms ch in
              let l = k.least (tip ms) e.1 e.2 in
              let level : reach bar hs steps (suc i) (tip ms) ≡ s.net.0 = omega (arith, ints, t.is) in
              ordered s.before s.net.0 t ms (k.first (tip ms) e.1 e.2 level) ch (same ∙ sym t.is);
        }

    -- ---- the steps with one more
    abbrev more : List Step
    more = steps ++ s ∷ []

    falls : Falling steps
    falls = full_falls bar hs steps full

    old : (j : ℕ) → j < i → Tells bar hs more j
    old j lt =
        let t = full j lt in
        let same = get_or_append_left steps (s ∷ []) no_step j lt in
        record {
          rest = t.rest;
          ending = t.ending;
          falls = subst (λ (q : Step). number q.before ≤ j) (sym same) t.falls;
          leads =
              led_kept steps falls (s ∷ []) (length more) (Some j) lt
              ∙ led_enough steps falls (length more) i (Some j) lt (omega (arith, length_push steps s)) lt
              ∙ t.leads;
          is = ap (λ (q : Step). q.net.0) same ∙ t.is;
        }

    new : Tells bar hs more i
    new =
        let t = picked in
        let same = get_or_push steps s no_step i refl in
        record {
          rest = t.rest;
          ending = ended;
          falls = subst (λ (q : Step). number q.before ≤ i) (sym same) k.below;
          leads =
              ap (λ (n : ℕ). led_within more n (Some i)) (length_push steps s ∙ add-one i)
              ∙ ap (λ (q : Step). suc i ∷ led_within more i q.before) same
              ∙ ap (λ (ns : List ℕ). suc i ∷ ns) (led_kept steps falls (s ∷ []) i s.before k.below ∙ t.leads);
          is = ap (λ (q : Step). q.net.0) same ∙ t.is;
        }

    -- one more step
    pub full_more : Full bar hs more
    full_more j lt =
        ⊎_elim (old j)
        (λ ge. let e : i ≡ j = omega (arith, length_push steps s) in subst (Tells bar hs more) e new)
        (cases_lt j i)
