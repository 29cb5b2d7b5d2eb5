-- Inner: a judgment as it is made from the rows, the weakest limit state and the net width. No public contract rests on these words.
use Rattle.std.specs.Prelude.{◌≡◌, ℕ, ◌+◌, cond, List, ℤ, pos, int_lt}
use Rattle.parts.specs.declared.quantity.Decinewtons.{Decinewtons}
use Rattle.parts.specs.declared.quantity.Micrometres.{Micrometres}
use Rattle.limits.specs.declared.rated.Rated.{Rated}
use Rattle.judging.specs.Extremes.{FirstGreatest, Least}
use Rattle.judging.specs.Rows.{row_at}
use Rattle.judging.specs.declared.judgment.Judgment.{Judgment}
use Rattle.judging.specs.declared.judgment.Kind.{Kind}
use Rattle.judging.specs.declared.judgment.Kind.TheVariants.{Passes, Overstressed, Reverses}

abbrev pub kind_of : ℤ → ℤ → ℤ → Kind
kind_of least greatest strength = cond (int_lt least (pos 0)) Reverses (cond (int_lt strength greatest) Overstressed Passes)

-- the row at the place `high` is named, and the one at `low` is the least told
pub record Weighed (rows : List Decinewtons) (weakest : Rated) (net : Micrometres) (j : Judgment) : Type 0 where
  pub high : ℕ
  pub top : FirstGreatest rows 19 high
  pub row : j.row ≡ high + 1
  pub greatest : j.greatest ≡ row_at rows high
  pub low : ℕ
  pub bottom : Least rows 19 low
  pub least : j.least ≡ row_at rows low
  pub state : j.state ≡ weakest.number
  pub strength : j.strength ≡ weakest.strength
  pub net_width : j.net_width ≡ net
  pub kind : j.kind ≡ kind_of j.least.0 j.greatest.0 j.strength.0
