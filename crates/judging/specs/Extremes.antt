-- Inner: the first of the greatest rows and a least one, by place. No public contract rests on these words.
use Rattle.std.specs.Prelude.{ℕ, ◌<◌, List, ◌≤ℤ◌, ◌<ℤ◌}
use Rattle.parts.specs.declared.quantity.Decinewtons.{Decinewtons}
use Rattle.judging.specs.Rows.{row_at}

-- of the first n rows, none is above that at the place k, and each before it is under it
pub record FirstGreatest (rows : List Decinewtons) (n k : ℕ) : Type 0 where
  pub stands : k < n
  pub none_above : (i : ℕ) → i < n → (row_at rows i).0 ≤ℤ (row_at rows k).0
  pub under_before : (i : ℕ) → i < k → (row_at rows i).0 <ℤ (row_at rows k).0

-- of the first n rows, none is under that at the place k
pub record Least (rows : List Decinewtons) (n k : ℕ) : Type 0 where
  pub stands : k < n
  pub none_under : (i : ℕ) → i < n → (row_at rows k).0 ≤ℤ (row_at rows i).0
