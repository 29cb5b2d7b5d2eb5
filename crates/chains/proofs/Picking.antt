-- The first of the least ways on backwards, with one more way at a time.
use Rattle.std.proofs.Common.{◌≡◌, ℕ, ◌+◌, ◌≤◌, ◌⊎◌, List, Option, None, Some, ◌≤ℤ◌, ◌<ℤ◌, sym, ap, ◌∙◌, subst, inl, inr, ⊎_elim, rules, arith}
use borrow.Author.Differences.{ints}
use Rattle.std.specs.declared.cmp.Ordering.{Ordering}
use Rattle.std.specs.Ordering.{ord_min, int_cmp}
use Rattle.std.proofs.lemmas.Int.{by_lt_z}
use Rattle.std.proofs.lemmas.Bool.{cases_lt}
use Rattle.parts.specs.declared.hole.Hole.{Hole}
use Rattle.chains.specs.declared.search.Step.{Step}
use Rattle.chains.specs.Search.{number, May, reach, Picks}

-- a place within one more is within, or the last
upto : (j : ℕ) (q : Option ℕ) → number q ≤ j + 1 → (number q ≤ j) ⊎ (q ≡ Some j)
upto j None h = inl (omega arith)
upto j (Some k) h =
    ⊎_elim (λ lt. inl (omega arith)) (λ ge. let e : k ≡ j = omega arith in inr (ap Some e)) (cases_lt k j)

-- steps by their widths
abbrev pub by_net : Step → Step → Ordering
by_net a b = int_cmp a.net.0 b.net.0

narrower : (r s t : Step) → r ≡ ord_min by_net s t → (s.net.0 ≤ℤ t.net.0 → r ≡ s) × (t.net.0 <ℤ s.net.0 → r ≡ t)
narrower r s t e = (λ h. search (rules, e), λ h. search (rules, e))

-- the hole alone, before any place is looked at
pub alone : (bar : ℕ) (hs : List Hole) (steps : List Step) (n : ℕ) (s : Step) → s.before ≡ None → s.net.0 ≡ reach bar hs steps n None → Picks bar hs steps n 0 s
alone bar hs steps n s none is = record {
  below = omega (arith, ap number none);
  may = subst (May hs n) (sym none) tt;
  is = is ∙ ap (reach bar hs steps n) (sym none);
  least = upto_none;
  first = λ q lt may same. omega (arith, ap number none);
}
  where
    upto_none : (q : Option ℕ) → number q ≤ 0 → May hs n q → s.net.0 ≤ℤ reach bar hs steps n q
    upto_none None lt may = omega (arith, ints)
    upto_none (Some j) lt may = absurd (omega arith)

module _ (bar : ℕ) (hs : List Hole) (steps : List Step) (n j : ℕ) (s : Step) (k : Picks bar hs steps n j s) where
  -- the way behind the hole at j is left
  pub keeps : (May hs n (Some j) → s.net.0 ≤ℤ reach bar hs steps n (Some j)) → Picks bar hs steps n (j + 1) s
  keeps up = record {
    below = omega (arith, k.below);
    may = k.may;
    is = k.is;
    least = λ q lt. ⊎_elim (k.least q) (λ e. subst (λ (p : Option ℕ). May hs n p → s.net.0 ≤ℤ reach bar hs steps n p) (sym e) up) (upto j q lt);
    first = λ q lt may same. ⊎_elim (λ l. k.first q l may same) (λ e. omega (arith, k.below, ap number e)) (upto j q lt);
  }

  module _ (t : Step) (may' : May hs n (Some j)) (is' : t.net.0 ≡ reach bar hs steps n (Some j)) (before : t.before ≡ Some j) where
    -- it is taken
    takes : t.net.0 <ℤ s.net.0 → Picks bar hs steps n (j + 1) t
    takes less = record {
      below = omega (arith, ap number before);
      may = subst (May hs n) (sym before) may';
      is = subst (λ (p : Option ℕ). t.net.0 ≡ reach bar hs steps n p) (sym before) is';
      least = λ q lt may.
          ⊎_elim (λ l. let h = k.least q l may in omega (arith, ints)) (λ e. subst (λ (p : Option ℕ). t.net.0 ≤ℤ reach bar hs steps n p) (sym e) (omega (arith, ints))) (upto j q lt);
      first = λ q lt may same.
          ⊎_elim (λ l. let h = k.least q l may in absurd (omega (arith, ints))) (λ e. omega (arith, ap number e, ap number before)) (upto j q lt);
    }

    -- the narrower of the two, the old one of equals
    pub chooses : (r : Step) → r ≡ ord_min by_net s t → Picks bar hs steps n (j + 1) r
    chooses r e =
        by_lt_z t.net.0 s.net.0
        (λ less. subst (Picks bar hs steps n (j + 1)) (sym ((narrower r s t e).1 less)) (takes less))
        (λ le. subst (Picks bar hs steps n (j + 1)) (sym ((narrower r s t e).0 le)) (keeps (λ may. omega (arith, ints))))
