-- How far a row can be from zero: no row has more than 36 tenths of its loads together.
use Rattle.std.proofs.Common.{ℕ, ◌<◌, List, get_or, ℤ, pos, negsuc, ◌≤ℤ◌, sym, ap, ◌∙◌, subst, zero-add, arith}
use Rattle.std.specs.List.{range_with_len, AllByRecursion}
use Rattle.std.proofs.lemmas.List.FromFn.{get_or-range_with_len}
use Rattle.std.proofs.ByRecursion.{All-get_or}
use Rattle.std.proofs.lemmas.List.{get_or-map}
use Rattle.std.proofs.lemmas.Int.{ints}
use Rattle.judging.specs.Judging.{RowNumber}
use Rattle.judging.specs.Rows.{combined, rows_of, row, decinewtons}
use Rattle.judging.proofs.Numbers.{by_number}

-- at most 36,000,000 N either way
abbrev pub Bearing : ℤ → Type 0
Bearing z = (negsuc 359999999 ≤ℤ z) × (z ≤ℤ pos 360000000)

module _ (xs : List ℤ) (ok : (k : ℕ) → k < 7 → (negsuc 9999999 ≤ℤ get_or xs k (pos 0)) × (get_or xs k (pos 0) ≤ℤ pos 10000000)) where
  each_bearing : AllByRecursion (λ i. Bearing (get_or (combined xs) i (pos 0))) (range_with_len 0 19)
  each_bearing =
      let d = ok 0 (omega arith) in
      let l = ok 1 (omega arith) in
      let a = ok 2 (omega arith) in
      let s = ok 3 (omega arith) in
      let r = ok 4 (omega arith) in
      let w = ok 5 (omega arith) in
      let e = ok 6 (omega arith) in
      ((omega (arith, ints), omega (arith, ints)), ((omega (arith, ints), omega (arith, ints)), ((omega (arith, ints), omega (arith, ints)), ((omega (arith, ints), omega (arith, ints)), ((omega (arith, ints), omega (arith, ints)), ((omega (arith, ints), omega (arith, ints)), ((omega (arith, ints), omega (arith, ints)), ((omega (arith, ints), omega (arith, ints)), ((omega (arith, ints), omega (arith, ints)), ((omega (arith, ints), omega (arith, ints)), ((omega (arith, ints), omega (arith, ints)), ((omega (arith, ints), omega (arith, ints)), ((omega (arith, ints), omega (arith, ints)), ((omega (arith, ints), omega (arith, ints)), ((omega (arith, ints), omega (arith, ints)), ((omega (arith, ints), omega (arith, ints)), ((omega (arith, ints), omega (arith, ints)), ((omega (arith, ints), omega (arith, ints)), ((omega (arith, ints), omega (arith, ints)), tt)))))))))))))))))))

  pub row_bearing : (n : ℕ) → RowNumber n → Bearing (row (rows_of xs) n)
  unfolding rows_of
  row_bearing =
      by_number (rows_of xs) (λ n z. Bearing z)
      (λ k h.
      subst Bearing (ap (λ x. x.0) (sym (get_or-map decinewtons (combined xs) k (pos 0) (decinewtons (pos 0)) h)))
      (subst (λ i. Bearing (get_or (combined xs) i (pos 0))) (get_or-range_with_len 0 19 k 0 h ∙ zero-add k)
      (All-get_or (λ i. Bearing (get_or (combined xs) i (pos 0))) (range_with_len 0 19) k 0 h each_bearing)))
