-- What holds of every joint, for those who build on its net width and its least chain.
use Rattle.std.proofs.Common.{◌≡◌, ℕ, ◌<◌, ◌≤◌, List, [], ◌∷◌, reverse, length, get_or, ℤ, pos, negsuc, ◌≤ℤ◌, sym, ap, ◌∙◌, subst, ⊎_elim, arith}
use mathlib.Core.List.{reverse-reverse}
use borrow.Author.Differences.{ints}
use Rattle.std.specs.List.{AllByRecursion}
use Rattle.std.proofs.lemmas.List.{length-reverse}
use Rattle.std.proofs.lemmas.Bool.{cases_lt}
use Rattle.parts.specs.declared.hole.Hole.{Hole}
use Rattle.parts.specs.declared.bolt.Size.{Size}
use Rattle.parts.specs.declared.bolt.Size.TheVariants.{M16, M20, M22, M24}
use Rattle.parts.specs.Sizes.{diameter_of}
use Rattle.sheet.proofs.Joints.{joint_sound}
use Rattle.sheet.specs.declared.sheet.joint.Joint.{Joint}
use Rattle.sheet.specs.Details.{Details, details, Sound, Before, no_hole}
use Rattle.chains.specs.Chains.{Chain}
use Rattle.chains.specs.Least.{Least}
use Rattle.chains.specs.NetWidth.{net_width}
use Rattle.chains.specs.Search.{Ready}
use Rattle.chains.specs.Slips.{told, Named}
use Rattle.chains.proofs.Basics.{chain_few}
use Rattle.chains.proofs.Nets.{net_above, net_under}
use Rattle.chains.proofs.Paths.{turned_numbers}

diameter_most : (s : Size) → diameter_of s ≤ 24
diameter_most M16 = omega arith
diameter_most M20 = omega arith
diameter_most M22 = omega arith
diameter_most M24 = omega arith

before_rises : (a b : Hole) → Before a b → a.y ≤ b.y
before_rises a b h = ⊎_elim (λ l. omega arith) (λ e. omega (arith, e.0)) h

-- all that the search takes from a joint
pub ready : (d : Details) → Sound d → Ready d.bar.width d.holes
ready d s =
    record {
      narrow = s.width.1;
      few = s.few;
      far = λ k h. (s.placed k h).x_high;
      small = λ k h. omega (arith, (s.drilled k h).high, diameter_most d.bolt.size);
      rising = λ j k le h. ⊎_elim (λ lt. before_rises (get_or d.holes j no_hole) (get_or d.holes k no_hole) (s.order j k lt h)) (λ ge. same j k (omega arith)) (cases_lt j k);
    }
  where
    same : (j k : ℕ) → j ≡ k → (get_or d.holes j no_hole).y ≤ (get_or d.holes k no_hole).y
    same j k e = omega (arith, ap (λ (n : ℕ). (get_or d.holes n no_hole).y) e)

pub joint_ready : (j : Joint) → Ready (details j).bar.width (details j).holes
joint_ready j = ready (details j) (joint_sound j)

module _ (d : Details) (s : Sound d) where
  -- the net width in µm
  pub net_bounds : (negsuc 1087999 ≤ℤ net_width d.bar.width d.holes) × (net_width d.bar.width d.holes ≤ℤ pos 1000000)
  net_bounds =
      let low = net_above d.bar.width d.holes (ready d s) in
      let high = net_under d.bar.width d.holes (ready d s) in
      (omega (arith, ints), omega (arith, ints, s.width))

  pub chain_short : (ns : List ℕ) → Chain d.holes ns → length ns ≤ 32
  chain_short = chain_few d.bar.width d.holes (ready d s)

  module _ (before after : List ℕ) (net : ℤ) (n : Named d.bar.width d.holes before after net) where
    -- a slip tells one number or more
    pub told_some : 0 < length (told after)
    told_some = some n.chain n.least.chain (ap length n.reads ∙ length-reverse n.chain)
      where
        some : (ns : List ℕ) → Chain d.holes ns → length (told after) ≡ length ns → 0 < length (told after)
        some [] ch e = absurd ch
        some (m ∷ ns) ch e = omega arith

    pub told_few : length (told after) ≤ 32
    told_few = omega (arith, ap length n.reads ∙ length-reverse n.chain, chain_short n.chain n.least.chain)

    -- read backwards, the least chain
    pub told_least : Least d.bar.width d.holes (reverse (told after))
    told_least = subst (Least d.bar.width d.holes) (sym (ap reverse n.reads ∙ reverse-reverse n.chain)) n.least

    -- each the number of a hole
    pub told_numbers : AllByRecursion (λ m. (1 ≤ m) × (m ≤ length d.holes)) (told after)
    told_numbers = subst (AllByRecursion (λ m. (1 ≤ m) × (m ≤ length d.holes))) (sym n.reads) (turned_numbers d.holes n.chain n.least.chain)
