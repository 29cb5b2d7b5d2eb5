-- The table of factors, and a row as a sum of loads times factors.
use Rattle.std.proofs.Common.{◌≡◌, ℕ, ◌+◌, ◌-◌, ◌*◌, ◌<◌, ◌≤◌, Bool, true, false, ◌&&◌, T, List, [], ◌∷◌, length, get_or, drop, slice_range, ℤ, pos, negsuc, ◌+ℤ◌, ◌*ℤ◌, ◌≤ℤ◌, sym, refl, ap, ◌∙◌, subst, mul-le-mul_right, zero-add, arith, w32, w64, SFits}
use borrow.Author.Differences.{up, down, product_is}
use lib.Signed.{le_z}
use Rattle.std.specs.List.{All, AllByRecursion, range_with_len}
use Rattle.std.proofs.ByRecursion.{All-get_or}
use Rattle.std.proofs.lemmas.Int.{ints}
use Rattle.std.proofs.lemmas.List.FromFn.{get_or-range_with_len}
use Rattle.std.proofs.lemmas.List.{get_or-map, get_or-take, get_or-drop, length-take, length-drop}
use Rattle.judging.specs.Factors.{Small, weighted}
use Rattle.judging.specs.Rows.{combined, rows_of, row_at, decinewtons}
use Rattle.judging.specs.declared.rows.TheConstants.{FACTORS}

fits_between : (x : ℤ) → negsuc 34359738367 ≤ℤ x → x ≤ℤ pos 34359738368 → SFits w64 x
fits_between x p q = omega (arith, ints)

small_parts : (f : ℤ) → Small f → (up f ≤ 16) × (down f ≤ 16)
small_parts (pos n) s = (omega (arith, ints), omega (arith, ints))
small_parts (negsuc n) s = (omega (arith, ints), omega (arith, ints))

-- a factor times a load of 32 bits
pub part_bounds : (f z : ℤ) → Small f → SFits w32 z → (negsuc 34359738367 ≤ℤ (f *ℤ z)) × ((f *ℤ z) ≤ℤ pos 34359738368)
part_bounds f z s b =
    let u : up f ≤ 16 = (small_parts f s).0 in
    let v : down f ≤ 16 = (small_parts f s).1 in
    let m = up z in
    let n = down z in (
      omega (arith, ints, product_is f z, mul-le-mul_right m u, mul-le-mul_right n u, mul-le-mul_right m v, mul-le-mul_right n v),
      omega (arith, ints, product_is f z, mul-le-mul_right m u, mul-le-mul_right n u, mul-le-mul_right m v, mul-le-mul_right n v),
    )

pub part_fits : (f z : ℤ) → Small f → SFits w32 z → SFits w64 (f *ℤ z)
part_fits f z s b = let h = part_bounds f z s b in fits_between (f *ℤ z) h.0 h.1

-- how far a sum of k parts can be from 0
pub record Room (k : ℕ) (z : ℤ) : Type 0 where
  pub above : up z ≤ k * 34359738368 + down z
  pub below : down z ≤ k * 34359738368 + up z

pub room_more : (k n : ℕ) (s p t : ℤ) → n ≡ k + 1 → t ≡ s +ℤ p → Room k s → negsuc 34359738367 ≤ℤ p → p ≤ℤ pos 34359738368 → Room n t
room_more k n s p t e is m a b = record { above = omega (arith, ints); below = omega (arith, ints) }

-- one more part of a sum, of which w is still to come and then v
pub sum_more : (s p t w v whole : ℤ) → t ≡ s +ℤ p → w ≡ p +ℤ v → s +ℤ w ≡ whole → t +ℤ v ≡ whole
sum_more s p t w v whole e f g = omega (arith, ints)

-- ---- the table
-- a test of an entry's size, over the whole table
abbrev all_small : List ℤ → Bool
all_small [] = true
all_small (z ∷ zs) = le_z (negsuc 15) z && (le_z z (pos 16) && all_small zs)

and_T : (a b : Bool) → T (a && b) → T a × T b
and_T true b t = (tt, t)
and_T false b t = absurd t

smalls : (zs : List ℤ) → T (all_small zs) → AllByRecursion Small zs
smalls [] t = tt
smalls (z ∷ zs) t =
    let p = and_T (le_z (negsuc 15) z) (le_z z (pos 16) && all_small zs) t in
    let q = and_T (le_z z (pos 16)) (all_small zs) p.1 in
    (record { low = record { le = p.0 }; high = record { le = q.0 } }, smalls zs q.1)

-- the seven factors of the row at a place
abbrev pub seven_at : ℕ → List ℤ
seven_at i = slice_range FACTORS (7 * i) (7 * i + 7)

pub seven_long : (i : ℕ) → i < 19 → length (seven_at i) ≡ 7
seven_long i h = omega (arith, length-take (7 * i + 7 - 7 * i) (drop (7 * i) FACTORS), length-drop (7 * i) FACTORS)

pub seven_small : (i : ℕ) → i < 19 → All Small (seven_at i)
seven_small i h k d lt =
    let long = seven_long i h in
    let here : 7 * i + k < 133 = omega arith in
    subst Small (sym (get_or-take (7 * i + 7 - 7 * i) (drop (7 * i) FACTORS) k d (omega arith) ∙ get_or-drop (7 * i) FACTORS k d))
    (All-get_or Small FACTORS (7 * i + k) d here (smalls FACTORS tt))

abbrev RowIs : List ℤ → ℕ → Type 0
RowIs xs i = weighted (seven_at i) xs ≡ get_or (combined xs) i (pos 0)

each_row : (xs : List ℤ) → AllByRecursion (RowIs xs) (range_with_len 0 19)
each_row xs =
    (omega (arith, ints), (omega (arith, ints), (omega (arith, ints), (omega (arith, ints), (omega (arith, ints), (omega (arith, ints), (omega (arith, ints), (omega (arith, ints), (omega (arith, ints), (omega (arith, ints), (omega (arith, ints), (omega (arith, ints), (omega (arith, ints), (omega (arith, ints), (omega (arith, ints), (omega (arith, ints), (omega (arith, ints), (omega (arith, ints), (omega (arith, ints), tt)))))))))))))))))))

pub row_is : (xs : List ℤ) (i : ℕ) → i < 19 → decinewtons (weighted (seven_at i) xs) ≡ row_at (rows_of xs) i
unfolding rows_of
row_is xs i h =
    ap decinewtons (subst (RowIs xs) (get_or-range_with_len 0 19 i 0 h ∙ zero-add i) (All-get_or (RowIs xs) (range_with_len 0 19) i 0 h (each_row xs)))
    ∙ sym (get_or-map decinewtons (combined xs) i (pos 0) (decinewtons (pos 0)) h)

pub length_rows : (xs : List ℤ) → length (rows_of xs) ≡ 19
unfolding rows_of
length_rows xs = refl
