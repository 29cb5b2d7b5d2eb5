-- What a judgment promises.
use Rattle.std.specs.Prelude.{◌≡◌, ℕ, ◌<◌, ◌≤◌, List, reverse, length, pos, ◌≤ℤ◌, ◌<ℤ◌, Some, None, Ok, Err, Result, slice_index_or}
use Rattle.parts.specs.declared.fault.Fault.{Fault}
use Rattle.parts.specs.declared.hole.Hole.{Hole}
use Rattle.parts.specs.declared.quantity.Decinewtons.{Decinewtons}
use Rattle.sheet.specs.Account.{Account}
use Rattle.sheet.specs.Calls.{joint_fault}
use Rattle.sheet.specs.Details.{Details, Sound, whole}
use Rattle.chains.specs.Chains.{Chain, width}
use Rattle.chains.specs.Least.{NoLater}
use Rattle.chains.specs.Slips.{filed, told}
use Rattle.limits.specs.Rating.{strength_of, rating}
use Rattle.limits.specs.declared.rated.Rated.{Rated}
use Rattle.judging.specs.Rows.{rows_of, row}
use Rattle.judging.specs.declared.judgment.Judgment.{Judgment}
use Rattle.judging.specs.declared.judgment.Kind.TheVariants.{Passes, Overstressed, Reverses}

-- rows are numbered from 1 to 19
abbrev pub RowNumber : ℕ → Type 0
RowNumber n = (1 ≤ n) × (n ≤ 19)

-- the limit state at a place in the bank
abbrev pub state_at : List Rated → ℕ → Rated
state_at states k = slice_index_or states k (rating 0 0)

-- every row is at least zero and at most every strength in the bank
abbrev pub Safe : List Decinewtons → List Rated → Type 0
Safe rows states =
    (n : ℕ) → RowNumber n → (pos 0 ≤ℤ row rows n) × ((k : ℕ) → k < length states → row rows n ≤ℤ strength_of (state_at states k))

-- some row is under zero
abbrev pub Reversing : List Decinewtons → Type 0
Reversing rows = (n : ℕ) × RowNumber n × (row rows n <ℤ pos 0)

abbrev pub Exactly : Type 0 → Type 0 → Type 0
Exactly p q = (p → q) × (q → p)

-- the judgment j with the least chain named, for the rows of the loads, the limit states of a bank in order, a bar's width and its holes
pub record Judged (rows : List Decinewtons) (states : List Rated) (bar : ℕ) (holes : List Hole) (j : Judgment) (chain : List ℕ) : Type 0 where
  -- the chain named is a chain of the standing holes; none is narrower, of those as narrow it comes first, and the width told is its own
  pub chain_stands : Chain holes chain
  pub none_narrower : (other : List ℕ) → Chain holes other → width bar holes chain ≤ℤ width bar holes other
  pub chain_first : (other : List ℕ) → Chain holes other → width bar holes other ≡ width bar holes chain → NoLater chain other
  pub width_told : j.net_width.0 ≡ width bar holes chain
  -- no row is above the one named, no earlier row is as great, and the greatest told is its own
  pub row_stands : RowNumber j.row
  pub greatest_told : j.greatest.0 ≡ row rows j.row
  pub none_above : (n : ℕ) → RowNumber n → row rows n ≤ℤ row rows j.row
  pub row_first : (n : ℕ) → RowNumber n → n < j.row → row rows n <ℤ row rows j.row
  -- the limit state named stands in the bank, with the number and strength told; none is weaker, and none before it is as weak
  pub place : ℕ
  pub state_stands : place < length states
  pub state_told : (state_at states place).number ≡ j.state
  pub strength_told : strength_of (state_at states place) ≡ j.strength.0
  pub none_weaker : (k : ℕ) → k < length states → strength_of (state_at states place) ≤ℤ strength_of (state_at states k)
  pub state_first : (k : ℕ) → k < place → strength_of (state_at states place) <ℤ strength_of (state_at states k)
  -- the least row told is a row, and none is under it
  pub least_told : (n : ℕ) × RowNumber n × (j.least.0 ≡ row rows n)
  pub none_under : (n : ℕ) → RowNumber n → j.least.0 ≤ℤ row rows n
  -- it passes exactly when all is safe, reverses exactly when some row is under zero, and is overstressed exactly when neither
  pub passes : Exactly (j.kind ≡ Passes) (Safe rows states)
  pub reverses : Exactly (j.kind ≡ Reverses) (Reversing rows)
  pub overstressed : Exactly (j.kind ≡ Overstressed) ((Safe rows states → ⊥) × (Reversing rows → ⊥))

-- the one judgment and the one chain that keep these promises for a joint and a bank
pub record Sole (states : Details → List Rated) (d : Details) (j : Judgment) (chain : List ℕ) : Type 0 where
  pub judged : Judged (rows_of d.loads) (states d) d.bar.width d.holes j chain
  pub only : (i : Judgment) (other : List ℕ) → Judged (rows_of d.loads) (states d) d.bar.width d.holes i other → (i ≡ j) × (other ≡ chain)

-- a joint judged by a bank: that judgment, and that chain on the slip, first hole first
pub record Tells (states : Details → List Rated) (d : Details) (before after : List ℕ) (j : Judgment) : Type 0 where
  pub chain : List ℕ
  pub sole : Sole states d j chain
  pub slip : after ≡ filed (reverse chain) before
  pub reads : told after ≡ reverse chain

-- a sheet judged by a bank: refused as the table says, with the slip as it was, or judged by all that it holds
abbrev pub Judges : (Details → List Rated) → Account → List ℕ → List ℕ → Result Judgment Fault → Type 0
Judges states a before after (Ok j) = (d : Details) × (a ≡ whole d) × Sound d × (joint_fault a ≡ None) × Tells states d before after j
Judges states a before after (Err f) = (joint_fault a ≡ Some f) × (after ≡ before)
