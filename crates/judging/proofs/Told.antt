-- What a judgment tells, for those who build on it.
use Rattle.std.proofs.Common.{◌≡◌, ℕ, ◌≤◌, List, pos, negsuc, ◌≤ℤ◌, sym, ◌∙◌, subst, arith}
use Rattle.std.specs.List.{AllByRecursion}
use Rattle.std.proofs.ByRecursion.{All-get_or}
use Rattle.std.proofs.lemmas.Int.{ints}
use Rattle.parts.specs.declared.hole.Hole.{Hole}
use Rattle.parts.specs.declared.quantity.Decinewtons.{Decinewtons}
use Rattle.sheet.specs.Details.{Details, Sound}
use Rattle.chains.specs.Least.{Least}
use Rattle.chains.specs.NetWidth.{net_width}
use Rattle.chains.specs.Slips.{Named}
use Rattle.chains.proofs.Facts.{ready, net_bounds}
use Rattle.chains.proofs.Nets.{net_is}
use Rattle.limits.specs.Rating.{rating, Lawful}
use Rattle.limits.specs.declared.rated.Rated.{Rated}
use Rattle.judging.specs.Judging.{state_at, Judged, Tells}
use Rattle.judging.specs.declared.judgment.Judgment.{Judgment}
use Rattle.judging.proofs.Bounds.{Bearing, row_bearing}

module _ {rows : List Decinewtons} {states : List Rated} {bar : ℕ} {holes : List Hole} {j : Judgment} {chain : List ℕ} (so : Judged rows states bar holes j chain) where
  pub named_least : Least bar holes chain
  named_least = record { chain = so.chain_stands; narrowest = so.none_narrower; first = so.chain_first }

  -- what holds of every limit state in the bank holds of the one named
  pub named_lawful : AllByRecursion Lawful states → Lawful record { number = j.state; strength = j.strength }
  named_lawful all =
      let e : state_at states so.place ≡ record { number = j.state; strength = j.strength } =
      λ t. record { number = so.state_told t; strength = record { 0 = so.strength_told t } } in
      subst Lawful e (All-get_or Lawful states so.place (rating 0 0) so.state_stands all)

-- how great and how small each number can be
pub record Bounded (j : Judgment) : Type 0 where
  pub row : (1 ≤ j.row) × (j.row ≤ 19)
  pub state : (1 ≤ j.state) × (j.state ≤ 99)
  pub greatest : Bearing j.greatest.0
  pub strength : (pos 0 ≤ℤ j.strength.0) × (j.strength.0 ≤ℤ pos 1000000000)
  pub width : (negsuc 1087999 ≤ℤ j.net_width.0) × (j.net_width.0 ≤ℤ pos 1000000)
  pub least : Bearing j.least.0

module _ {states : Details → List Rated} {d : Details} {before after : List ℕ} {j : Judgment} (tells : Tells states d before after j) where
  -- the slip and the net width are those of the least chain
  pub tells_named : Named d.bar.width d.holes before after j.net_width.0
  tells_named = record {
    chain = tells.chain;
    least = named_least tells.sole.judged;
    wide = tells.sole.judged.width_told;
    slip = tells.slip;
    reads = tells.reads;
  }

  module _ (sound : Sound d) where
    pub tells_net : j.net_width.0 ≡ net_width d.bar.width d.holes
    tells_net = tells.sole.judged.width_told ∙ net_is d.bar.width d.holes (ready d sound) tells.chain (named_least tells.sole.judged)

    pub tells_bounded : AllByRecursion Lawful (states d) → Bounded j
    tells_bounded all =
        let so = tells.sole.judged in
        let law = named_lawful so all in
        let net = net_bounds d sound in
        let wide = sound.width in
        record {
          row = so.row_stands;
          state = (law.lowest, law.highest);
          greatest = subst Bearing (sym so.greatest_told) (row_bearing d.loads sound.bearable j.row so.row_stands);
          strength = (law.least, law.moderate);
          width = (omega (arith, ints, tells_net), omega (arith, ints, tells_net));
          least = subst Bearing (sym so.least_told.2) (row_bearing d.loads sound.bearable so.least_told.0 so.least_told.1);
        }
