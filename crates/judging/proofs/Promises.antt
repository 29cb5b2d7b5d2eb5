-- The promises of a judgment that is made from the rows, the weakest limit state and the least chain.
use Rattle.std.proofs.Common.{◌≡◌, ℕ, ◌+◌, ◌<◌, List, length, ℤ, pos, ◌≤ℤ◌, ◌<ℤ◌, sym, refl, ap, ◌∙◌, subst, arith}
use Rattle.std.proofs.lemmas.Int.{ints}
use Rattle.parts.specs.declared.hole.Hole.{Hole}
use Rattle.parts.specs.declared.quantity.Decinewtons.{Decinewtons}
use Rattle.parts.specs.declared.quantity.Micrometres.{Micrometres}
use Rattle.chains.specs.Chains.{width}
use Rattle.chains.specs.Least.{Least}
use Rattle.limits.specs.Rating.{strength_of, FirstWeakest}
use Rattle.limits.specs.declared.rated.Rated.{Rated}
use Rattle.judging.specs.Judging.{RowNumber, state_at, Safe, Reversing, Exactly, Judged}
use Rattle.judging.specs.Rows.{row, row_at}
use Rattle.judging.specs.Weighing.{Weighed}
use Rattle.judging.specs.declared.judgment.Judgment.{Judgment}
use Rattle.judging.specs.declared.judgment.Kind.TheVariants.{Passes, Reverses}
use Rattle.judging.proofs.Numbers.{row_there, by_number}
use Rattle.judging.proofs.Sayings.{safe_said, said_safe, reversal_said, said_reversal, neither}
use Rattle.judging.proofs.States.{state_within, state_is, none_under_it, stronger_before}

upward : (a b c : ℤ) → a ≤ℤ b → b ≤ℤ c → a ≤ℤ c
upward a b c h k = omega (arith, ints)

downward : (a b c : ℤ) → a ≤ℤ b → b <ℤ c → a <ℤ c
downward a b c h k = omega (arith, ints)

module _ {rows : List Decinewtons} {states : List Rated} {w : Rated} {net : Micrometres} {j : Judgment}
    (m : Weighed rows w net j) (weak : FirstWeakest states w) where
  at_high : row rows j.row ≡ (row_at rows m.high).0
  at_high = row_there rows j.row m.high m.row

  tells_greatest : j.greatest.0 ≡ row rows j.row
  tells_greatest = ap (λ x. x.0) m.greatest ∙ sym at_high

  tells_strength : strength_of w ≡ j.strength.0
  tells_strength = ap (λ x. x.0) (sym m.strength)

  above_none : (n : ℕ) → RowNumber n → row rows n ≤ℤ row rows j.row
  above_none = by_number rows (λ n x. x ≤ℤ row rows j.row) (λ k h. subst (λ v. (row_at rows k).0 ≤ℤ v) (sym at_high) (m.top.none_above k h))

  first_so : (n : ℕ) → RowNumber n → n < j.row → row rows n <ℤ row rows j.row
  first_so =
      by_number rows (λ n x. n < j.row → x <ℤ row rows j.row)
      (λ k h lt. subst (λ v. (row_at rows k).0 <ℤ v) (sym at_high) (m.top.under_before k (omega (arith, m.row))))

  tells_least : (n : ℕ) × RowNumber n × (j.least.0 ≡ row rows n)
  tells_least =
      (m.low + 1, (omega arith, omega (arith, m.bottom.stands)), ap (λ x. x.0) m.least ∙ sym (row_there rows (m.low + 1) m.low refl))

  under_none : (n : ℕ) → RowNumber n → j.least.0 ≤ℤ row rows n
  under_none =
      by_number rows (λ n x. j.least.0 ≤ℤ x)
      (λ k h. subst (λ v. v ≤ℤ (row_at rows k).0) (ap (λ x. x.0) (sym m.least)) (m.bottom.none_under k h))

  weaker_none : (k : ℕ) → k < length states → j.strength.0 ≤ℤ strength_of (state_at states k)
  weaker_none k h = subst (λ v. v ≤ℤ strength_of (state_at states k)) tells_strength (none_under_it weak k h)

  row_stood : RowNumber j.row
  row_stood = (omega (arith, m.row), omega (arith, m.row, m.top.stands))

  passes_so : Exactly (j.kind ≡ Passes) (Safe rows states)
  passes_so = (
    (λ e.
        let p = safe_said j.least.0 j.greatest.0 j.strength.0 (sym m.kind ∙ e) in
        λ n ok. (
          upward (pos 0) j.least.0 (row rows n) p.0 (under_none n ok),
          λ k h. upward (row rows n) (row rows j.row) _ (above_none n ok)
              (upward (row rows j.row) j.strength.0 _ (subst (λ v. v ≤ℤ j.strength.0) tells_greatest p.1) (weaker_none k h)),
        )),
    λ safe.
        let least = subst (λ v. pos 0 ≤ℤ v) (sym tells_least.2) (safe tells_least.0 tells_least.1).0 in
        let most = (safe j.row row_stood).1 weak.0 (state_within weak) in
        m.kind ∙ said_safe j.least.0 j.greatest.0 j.strength.0 least
        (omega (arith, ints, tells_greatest, tells_strength, ap strength_of (state_is weak), most)),
  )

  reverses_so : Exactly (j.kind ≡ Reverses) (Reversing rows)
  reverses_so = (
    (λ e. (tells_least.0, tells_least.1, subst (λ v. v <ℤ pos 0) tells_least.2 (reversal_said j.least.0 j.greatest.0 j.strength.0 (sym m.kind ∙ e)))),
    λ r. m.kind ∙ said_reversal j.least.0 j.greatest.0 j.strength.0 (downward _ _ _ (under_none r.0 r.1) r.2),
  )

  pub promised : {bar : ℕ} {holes : List Hole} {chain : List ℕ} → Least bar holes chain → net.0 ≡ width bar holes chain → Judged rows states bar holes j chain
  promised least wide = record {
    chain_stands = least.chain;
    none_narrower = least.narrowest;
    chain_first = least.first;
    width_told = ap (λ x. x.0) m.net_width ∙ wide;
    row_stands = row_stood;
    greatest_told = tells_greatest;
    none_above = above_none;
    row_first = first_so;
    place = weak.0;
    state_stands = state_within weak;
    state_told = ap (λ x. x.number) (state_is weak) ∙ sym m.state;
    strength_told = ap strength_of (state_is weak) ∙ tells_strength;
    none_weaker = λ k h. subst (λ x. strength_of x ≤ℤ strength_of (state_at states k)) (sym (state_is weak)) (none_under_it weak k h);
    state_first = λ k h. subst (λ x. strength_of x <ℤ strength_of (state_at states k)) (sym (state_is weak)) (stronger_before weak k h);
    least_told = tells_least;
    none_under = under_none;
    passes = passes_so;
    reverses = reverses_so;
    overstressed = neither j.kind (Safe rows states) (Reversing rows) passes_so reverses_so;
  }
