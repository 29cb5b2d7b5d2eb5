-- Each hole of a line and the next, as windows of two give them.
use Rattle.std.proofs.Common.{◌≡◌, ℕ, suc, ◌+◌, ◌-◌, ◌*◌, ◌<◌, ◌≤◌, List, [], ◌∷◌, map, length, replicate, get_or, take, drop, Bor, Some, Bool, true, false, min, sum, sum_by, nat_le, sym, refl, ap, subst, ◌∙◌, mul-le-mul, arith}
use Rattle.std.specs.List.{AllAdjacentBelow, zip, list_all}
use Rattle.std.proofs.lemmas.List.Folds.{list_all-map, sum_by-replicate}
use Rattle.std.proofs.lemmas.Bool.{le-leb, cond-true, cond-false}
use Rattle.std.proofs.lemmas.List.Sums.{sum_by-le, sum_by-cons, sum-map}
use Rattle.std.proofs.lemmas.Simd.{map-map}
use Rattle.std.proofs.lemmas.Slice.Zip.{length-zip}
use Rattle.std.specs.Iterator.{Yields, AlwaysYields}
use Rattle.std.specs.Slice.Iter.{windows_rest, windows_size, windows_steps}
use Rattle.std.specs.declared.slice.Windows.{Windows}
use Rattle.std.proofs.lemmas.Iterator.{YieldsList}
use Rattle.parts.specs.declared.hole.Hole.{Hole}
use Rattle.sheet.specs.Details.{no_hole}
use Rattle.limits.specs.Bearing.{line_of, spacings, roomy, clear_lengths, lengths, members}

-- the two holes of a window
abbrev pub pair : Bor (List Hole) → Hole × Hole
pair w = (get_or w.now 0 no_hole, get_or w.now 1 no_hole)

-- each hole with the next
abbrev pub pairs : List Hole → List (Hole × Hole)
pairs hs = zip hs (drop 1 hs)

windows_give : (hs : List Hole) (s : Windows Hole) → windows_size s ≡ 2 → windows_rest s ≡ hs → AlwaysYields windows_steps pair s (pairs hs)
windows_give [] s n e = λ x j p. omega (arith, ap length e, p.1.0)
windows_give (h ∷ []) s n e = λ x j p. omega (arith, ap length e, p.1.0)
windows_give (h ∷ k ∷ hs) s n e = (
  (λ j p. omega (arith, ap length e, p.1.0)),
  λ x j p.
      let two : x.now ≡ h ∷ k ∷ [] = p.1.1 ∙ ap (λ m. take m (windows_rest s)) n ∙ ap (take 2) e in
      (ap (λ w. (get_or w 0 no_hole, get_or w 1 no_hole)) two, windows_give (k ∷ hs) j (p.0 ∙ n) (p.1.2 ∙ ap (drop 1) e)),
)

-- windows of two give each hole with the next
pub YieldsList-from_windows : (hs : List Hole) {s : Windows Hole} → windows_size s ≡ 2 → windows_rest s ≡ hs → YieldsList windows_steps pair s (pairs hs)
YieldsList-from_windows hs {s} n e = record { runs = windows_give hs s n e }

pub adjacent_tail : {X : Type 0} (R : X → X → Type 0) (x : X) (xs : List X) (n : ℕ) → AllAdjacentBelow R (x ∷ xs) (suc n) → AllAdjacentBelow R xs n
adjacent_tail R x xs n r = λ k d m.
    let next : suc k + 1 ≡ suc (k + 1) = omega arith in
    subst (λ j. R (get_or xs k d) (get_or (x ∷ xs) j d)) next (r (suc k) d (omega arith))

-- what holds of neighbours holds in each window
module _ (R : Hole → Hole → Type 0) where
  here : (x : Bor (List Hole)) (hs : List Hole) → 2 ≤ length hs → x.now ≡ take 2 hs → AllAdjacentBelow R hs (length hs) → R (pair x).0 (pair x).1
  here x [] n e r = absurd (omega arith)
  here x (h ∷ []) n e r = absurd (omega arith)
  here x (h ∷ k ∷ hs) n e r = subst (λ w. R (get_or w 0 no_hole) (get_or w 1 no_hole)) (sym e) (r 0 no_hole (omega arith))

  later : (hs : List Hole) → AllAdjacentBelow R hs (length hs) → AllAdjacentBelow R (drop 1 hs) (length (drop 1 hs))
  later [] r = r
  later (h ∷ hs) r = adjacent_tail R h hs (length hs) r

  goes : (s t u : Windows Hole) (xs : List (Bor (List Hole))) (x : Bor (List Hole)) → windows_size s ≡ 2
      → AllAdjacentBelow R (windows_rest s) (length (windows_rest s)) → Yields windows_steps s xs t → windows_steps t (Some x) u
      → (length x.now ≡ 2) × R (pair x).0 (pair x).1
  goes s t u [] x n r y p =
      let at : windows_steps s (Some x) u = subst (λ v. windows_steps v (Some x) u) (sym y) p in
      (at.1.3 ∙ n, here x (windows_rest s) (omega (arith, at.1.0)) (at.1.1 ∙ ap (λ m. take m (windows_rest s)) n) r)
  goes s t u (v ∷ xs) x n r y p =
      let on = subst (λ hs. AllAdjacentBelow R hs (length hs)) (sym y.1.1.2) (later (windows_rest s) r) in
      goes y.0 t u xs x (y.1.0 ∙ n) on y.2 p

  pub window_at : (hs : List Hole) (s t u : Windows Hole) (xs : List (Bor (List Hole))) (x : Bor (List Hole)) → windows_size s ≡ 2 → windows_rest s ≡ hs
      → AllAdjacentBelow R hs (length hs) → Yields windows_steps s xs t → windows_steps t (Some x) u
      → (length x.now ≡ 2) × R (pair x).0 (pair x).1
  window_at hs s t u xs x n e r y p = goes s t u xs x n (subst (λ ks. AllAdjacentBelow R ks (length ks)) (sym e) r) y p

-- from a hole to the next
abbrev pub spacing : Hole × Hole → ℕ
spacing p = p.1.x - p.0.x

pub spacings-map : (h : Hole) (ks : List Hole) → spacings h ks ≡ map spacing (pairs (h ∷ ks))
spacings-map h [] = refl
spacings-map h (k ∷ ks) = ap (λ ss. (k.x - h.x) ∷ ss) (spacings-map k ks)

-- two holes or more, the first far from the end: it is for the spacings to say whether the line is roomy
pub roomy_by_spacings : (d : ℕ) (hs : List Hole) (wide : Bool) → 1 < length hs → nat_le (3 * d) (2 * (get_or hs 0 no_hole).x) ≡ true
    → wide ≡ list_all (λ p. nat_le (3 * d) (spacing p)) (pairs hs) → wide ≡ roomy d (line_of hs)
roomy_by_spacings d [] wide some far is = absurd (omega arith)
roomy_by_spacings d (h ∷ ks) wide some far is =
    let each : list_all (nat_le (3 * d)) (spacings h ks) ≡ list_all (λ p. nat_le (3 * d) (spacing p)) (pairs (h ∷ ks)) =
    ap (list_all (nat_le (3 * d))) (spacings-map h ks) ∙ list_all-map (nat_le (3 * d)) spacing (pairs (h ∷ ks)) in
    let two : nat_le 1 (length ks) ≡ true = le-leb _ _ (omega arith) in
    is ∙ sym each ∙ simp (two, far)

-- the length of the second of two neighbours on a line that is not roomy
abbrev pub clear : ℕ → Hole × Hole → ℕ
clear d p = min (10 * spacing p - 5 * d) (24 * d)

pub clear_most : (d : ℕ) (hs : List Hole) → d ≤ 24 → length hs ≤ 32 → sum_by (clear d) (pairs hs) ≤ 18432
clear_most d hs small few =
    let fewer : length (pairs hs) ≤ 32 = omega (arith, length-zip hs (drop 1 hs)) in
    let short : 24 * d ≤ 576 = omega arith in
    omega (arith, sum_by-le (clear d) (24 * d) (pairs hs) (λ k p n. omega arith), mul-le-mul fewer short)

pub clear_sum : (d : ℕ) (hs : List Hole) → 0 < length hs → false ≡ roomy d (line_of hs)
    → min (10 * (get_or hs 0 no_hole).x) (24 * d) + sum_by (clear d) (pairs hs) ≡ sum (lengths d (line_of hs))
clear_sum d [] some e = absurd (omega arith)
clear_sum d (h ∷ ks) some e =
    let apart : map (λ s. min s (24 * d)) (map (λ s. 10 * s - 5 * d) (spacings h ks)) ≡ map (clear d) (pairs (h ∷ ks)) =
    ap (λ ss. map (λ s. min s (24 * d)) (map (λ s. 10 * s - 5 * d) ss)) (spacings-map h ks) ∙ simp map-map in
    let begins = sum_by-cons (λ s. s) (min (10 * h.x) (24 * d)) (map (λ s. min s (24 * d)) (map (λ s. 10 * s - 5 * d) (spacings h ks))) in
    omega (arith, begins, ap sum apart, sum-map (clear d) (pairs (h ∷ ks)))
    ∙ ap sum (sym (cond-false (roomy d (line_of (h ∷ ks))) (replicate (length (members (line_of (h ∷ ks)))) (24 * d)) (clear_lengths d (line_of (h ∷ ks))) (sym e)))

pub roomy_sum : (d : ℕ) (hs : List Hole) → 0 < length hs → true ≡ roomy d (line_of hs) → length hs * (24 * d) ≡ sum (lengths d (line_of hs))
roomy_sum d [] some e = absurd (omega arith)
roomy_sum d (h ∷ ks) some e =
    sym (sum_by-replicate (λ s. s) (length (h ∷ ks)) (24 * d))
    ∙ ap sum (sym (cond-true (roomy d (line_of (h ∷ ks))) (replicate (length (members (line_of (h ∷ ks)))) (24 * d)) (clear_lengths d (line_of (h ∷ ks))) (sym e)))
