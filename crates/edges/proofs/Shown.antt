-- The figures, worked out.
use Rattle.std.proofs.Common.{◌≡◌, ℕ, zero, suc, ◌<◌, ◌≤◌, List, [], ◌∷◌, length, get_or, pos, negsuc, ◌≤ℤ◌, refl, inl, inr, ⊎_elim, arith}
use lib.Signed.{le_z_yes}
use Rattle.std.specs.List.{AllByRecursion}
use Rattle.std.proofs.ByRecursion.{All-get_or}
use Rattle.std.proofs.lemmas.Int.{ints}
use Rattle.std.proofs.lemmas.Bool.{cases_lt}
use Rattle.sheet.specs.Calls.{put_fault_by}
use Rattle.sheet.specs.Details.{no_hole}
use Rattle.chains.specs.Chains.{Chain, width}
use Rattle.chains.specs.Least.{NoLater, Least}
use Rattle.chains.specs.NetWidth.{net_width}
use Rattle.chains.specs.Search.{Ready}
use Rattle.chains.proofs.Nets.{every_chain}
use Rattle.limits.specs.Rating.{Lawful, rating, strength_of}
use Rattle.judging.specs.Judging.{RowNumber}
use Rattle.judging.specs.Rows.{rows_of, row, decinewtons}
use Rattle.edges.specs.Figures.{two, loads, Whenever, Figures}
use Rattle.judging.specs.declared.judgment.Kind.TheVariants.{Passes, Reverses}

ready : Ready 200 two
ready = record { narrow = omega arith; few = omega arith; far = far; small = small; rising = rising }
  where
    far : (k : ℕ) → k < 2 → (get_or two k no_hole).x ≤ 1200
    far zero h = omega arith
    far (suc zero) h = omega arith
    far (suc (suc k)) h = absurd (omega arith)

    small : (k : ℕ) → k < 2 → (get_or two k no_hole).diameter ≤ 32
    small zero h = omega arith
    small (suc zero) h = omega arith
    small (suc (suc k)) h = absurd (omega arith)

    rising : (j k : ℕ) → j ≤ k → k < 2 → (get_or two j no_hole).y ≤ (get_or two k no_hole).y
    rising zero zero l h = omega arith
    rising zero (suc zero) l h = omega arith
    rising (suc zero) zero l h = absurd (omega arith)
    rising (suc zero) (suc zero) l h = omega arith
    rising zero (suc (suc k)) l h = absurd (omega arith)
    rising (suc zero) (suc (suc k)) l h = absurd (omega arith)
    rising (suc (suc j)) k l h = absurd (omega arith)

-- each of the three chains is as wide, and none comes before chain 1
abbrev Behind : List ℕ → Type 0
Behind ms = (width 200 two (1 ∷ []) ≤ℤ width 200 two ms) × NoLater (1 ∷ []) ms

behind : (ms : List ℕ) → Chain two ms → Behind ms
behind = every_chain 200 two ready Behind ((le_z_yes tt, inr (refl, tt)), ((le_z_yes tt, inl (omega arith)), ((le_z_yes tt, inl (omega arith)), tt)))

chain_one : Least 200 two (1 ∷ [])
chain_one = record {
  chain = (omega arith, omega arith);
  narrowest = λ ms ch. (behind ms ch).0;
  first = λ ms ch e. (behind ms ch).1;
}

windy : row (rows_of (loads (pos 10000) (pos 0) (pos 20000))) 17 ≡ negsuc 169999
unfolding rows_of
windy = refl

reversed : Whenever (loads (pos 10000) (pos 0) (pos 20000)) (λ j. j.kind ≡ Reverses)
reversed states bar holes j chain law so = so.reverses.1 (17, (omega arith, omega arith), omega (arith, ints, windy))

-- without loads every row is 0
all_unloaded : AllByRecursion (λ r. r.0 ≡ pos 0) (rows_of (loads (pos 0) (pos 0) (pos 0)))
unfolding rows_of
all_unloaded = (refl, (refl, (refl, (refl, (refl, (refl, (refl, (refl, (refl, (refl, (refl, (refl, (refl, (refl, (refl, (refl, (refl, (refl, (refl, tt)))))))))))))))))))

unloaded_row : (n : ℕ) → RowNumber n → row (rows_of (loads (pos 0) (pos 0) (pos 0))) n ≡ pos 0
unfolding rows_of
unloaded_row zero h = absurd (omega arith)
unloaded_row (suc n) h = All-get_or (λ r. r.0 ≡ pos 0) (rows_of (loads (pos 0) (pos 0) (pos 0))) n (decinewtons (pos 0)) (omega arith) all_unloaded

unloaded : Whenever (loads (pos 0) (pos 0) (pos 0)) (λ j. (j.row ≡ 1) × (j.kind ≡ Passes))
unloaded states bar holes j chain law so = (first, so.passes.1 (λ n h. (safe n h, λ k l. bears n h k l)))
  where
    first : j.row ≡ 1
    first =
        ⊎_elim
        (λ lt. absurd (omega (arith, ints, so.row_first 1 (omega arith, omega arith) lt, unloaded_row 1 (omega arith, omega arith), unloaded_row j.row so.row_stands)))
        (λ ge. omega (arith, so.row_stands))
        (cases_lt 1 j.row)

    safe : (n : ℕ) → RowNumber n → pos 0 ≤ℤ row (rows_of (loads (pos 0) (pos 0) (pos 0))) n
    safe n h = omega (arith, ints, unloaded_row n h)

    bears : (n : ℕ) → RowNumber n → (k : ℕ) → k < length states → row (rows_of (loads (pos 0) (pos 0) (pos 0))) n ≤ℤ strength_of (get_or states k (rating 0 0))
    bears n h k l = omega (arith, ints, unloaded_row n h, (All-get_or Lawful states k (rating 0 0) l law).least)

pub shown : Figures
unfolding net_width put_fault_by
shown = record {
  gross = refl;
  net = refl;
  shear = refl;
  bears = refl;
  skips = refl;
  stops = refl;
  stagger = refl;
  level_one = refl;
  level_two = refl;
  level_both = refl;
  named = chain_one;
  close = refl;
  apart = refl;
  roomy = refl;
  near = refl;
  early = refl;
  windy = windy;
  reversed = reversed;
  unloaded = unloaded;
}
