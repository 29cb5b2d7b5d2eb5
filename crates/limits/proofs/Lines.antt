-- Holes in lines: what parts them, and how they stand in each line and from line to line.
use Rattle.std.proofs.Common.{◌≡◌, ◌==◌, ℕ, zero, suc, ◌+◌, ◌-◌, ◌*◌, ◌<◌, ◌≤◌, Bool, true, false, List, [], ◌∷◌, ◌++◌, map, sum, sum_by, length, take, drop, get_or, Bor, Some, sym, refl, ap, subst, ◌∙◌, ⊎_elim, mul-le-mul, arith, length-append}
use Rattle.std.specs.Fn.{ComputesOnPairs}
use Rattle.std.specs.Iterator.{Yields, AlwaysYields}
use Rattle.std.specs.List.{flat_map, AllByRecursion, AllAdjacentBelow, IsChunkByPrefix}
use Rattle.std.specs.Slice.Iter.{chunk_by_rest, chunk_by_callee, chunk_by_steps}
use Rattle.std.specs.declared.slice.ChunkBy.{ChunkBy}
use Rattle.std.proofs.lemmas.Bool.{cond-true, cond-false, cond_both, eq-eqb, ne_eqb, cases_eq, cases_lt}
use Rattle.std.proofs.lemmas.Iterator.{YieldsList}
use Rattle.std.proofs.lemmas.List.{nil_from_length}
use Rattle.std.proofs.lemmas.List.Sums.{sum-map}
use Rattle.std.proofs.lemmas.Simd.{map-map}
use Rattle.std.proofs.Math.Seq.{take-append_seam, drop-append_seam}
use Rattle.limits.specs.Bounds.{diameter_most}
use Rattle.limits.proofs.Neighbours.{adjacent_tail}
use denote.Param.Members.{Mut}
use Rattle.parts.specs.declared.hole.Hole.{Hole}
use Rattle.parts.specs.Holes.{gap}
use Rattle.parts.specs.Sizes.{diameter_of}
use Rattle.sheet.specs.Details.{Details, Sound, Before, no_hole}
use Rattle.limits.specs.Bearing.{Line, members, line_of, join, lines, lengths, bearing_length, Rising, Next, InLine, Lined}

-- whether two holes are on one line
abbrev pub level : Hole → Hole → Bool
level a b = a.y == b.y

abbrev line : Hole → List Hole → Line
line h hs = record { first = h; others = hs }

-- a hole of another y than the next has a line of its own
apart : (h k : Hole) (ls : List Line) → (h.y == k.y) ≡ false → join h (join k ls) ≡ line h [] ∷ join k ls
apart h k [] e = cond-false (h.y == k.y) (line h (k ∷ []) ∷ []) (line h [] ∷ line k [] ∷ []) e
apart h k (l ∷ ls) e =
    cond_both (k.y == l.first.y) (line k (members l) ∷ ls) (line k [] ∷ l ∷ ls) (λ ms. join h ms ≡ line h [] ∷ ms)
    (λ _. cond-false (h.y == k.y) _ _ e) (λ _. cond-false (h.y == k.y) _ _ e)

-- the longest front on one line is the first line
front_line : (h : Hole) (ks : List Hole) (n : ℕ) → n ≤ length ks → IsChunkByPrefix level (h ∷ ks) (suc n) → lines (h ∷ ks) ≡ line h (take n ks) ∷ lines (drop n ks)
front_line h [] zero few w = refl
front_line h [] (suc n) few w = absurd (omega arith)
front_line h (k ∷ ks) zero few w = apart h k (lines ks) (w.1 (omega arith) no_hole)
front_line h (k ∷ ks) (suc n) few w =
    let beyond : suc n < length (k ∷ ks) → (d : Hole) → level (get_or (k ∷ ks) (suc n - 1) d) (get_or (k ∷ ks) (suc n) d) ≡ false = λ m d.
    let one : suc n - 1 ≡ n = omega arith in
    let two : suc (suc n) - 1 ≡ suc n = omega arith in
    rw one (rw two at (w.1 (omega arith) d)) in
    let next : IsChunkByPrefix level (k ∷ ks) (suc n) = (adjacent_tail (λ a b. level a b ≡ true) h (k ∷ ks) (suc n) w.0, beyond) in
    ap (join h) (front_line k ks n (omega arith) next) ∙ cond-true (h.y == k.y) _ _ (w.0 0 no_hole (omega arith))

whole_line : (x : List Hole) → 0 < length x → members (line_of x) ≡ x
whole_line [] some = absurd (omega arith)
whole_line (h ∷ x) some = refl

chunk_line : (x t : List Hole) → 0 < length x → IsChunkByPrefix level (x ++ t) (length x) → lines (x ++ t) ≡ line_of x ∷ lines t
chunk_line [] t some w = absurd (omega arith)
chunk_line (h ∷ x) t some w = front_line h (x ++ t) (length x) (omega (arith, length-append x t)) w ∙ simp (take-append_seam, drop-append_seam)

module _ {F : Type 0} (g : Mut F (Bor Hole × (Bor Hole × Unit {0})) Bool) where
  chunk_step : (s t : ChunkBy Hole F) (x : Bor (List Hole)) → ComputesOnPairs g level (chunk_by_callee s) → chunk_by_steps g s (Some x) t
      → ComputesOnPairs g level (chunk_by_callee t) × (lines (chunk_by_rest s) ≡ line_of x.now ∷ lines (chunk_by_rest t))
  chunk_step s t x f p =
      let on = p.2 level f in
      (on.0, ap lines p.0 ∙ chunk_line x.now (chunk_by_rest t) p.1 (subst (λ hs. IsChunkByPrefix level hs (length x.now)) p.0 on.1))

  chunks_give : (ls : List Line) (s : ChunkBy Hole F) → ComputesOnPairs g level (chunk_by_callee s) → lines (chunk_by_rest s) ≡ ls
      → AlwaysYields (chunk_by_steps g) (λ x. x.now) s (map members ls)
  chunks_give [] s f e = λ x j p. let step = (chunk_step s j x f p).1 in cc
  chunks_give (l ∷ ls) s f e = (
    (λ j p. let none = ap lines (nil_from_length (chunk_by_rest s) p.0) in cc),
    λ x j p.
        let step = chunk_step s j x f p in
        let first : line_of x.now ≡ l = cc in
        let others : lines (chunk_by_rest j) ≡ ls = cc in
        (sym (whole_line x.now p.1) ∙ ap members first, chunks_give ls j step.0 others),
  )

  -- holes parted where y changes are the lines
  pub YieldsList-from_chunks : (hs : List Hole) {s : ChunkBy Hole F} → ComputesOnPairs g level (chunk_by_callee s) → chunk_by_rest s ≡ hs
      → YieldsList (chunk_by_steps g) (λ x. x.now) s (map members (lines hs))
  YieldsList-from_chunks hs {s} f e = record { runs = chunks_give (lines hs) s f (ap lines e) }

  -- what holds of each line holds of each part
  chunk_at : (P : Line → Type 0) (n : ℕ) (s t u : ChunkBy Hole F) (xs : List (Bor (List Hole))) (x : Bor (List Hole)) → ComputesOnPairs g level (chunk_by_callee s)
      → AllByRecursion P (lines (chunk_by_rest s)) → length (chunk_by_rest s) ≤ n → Yields (chunk_by_steps g) s xs t → chunk_by_steps g t (Some x) u
      → (0 < length x.now) × (length x.now ≤ n) × P (line_of x.now)
  chunk_at P n s t u [] x f all few y p =
      let at : chunk_by_steps g s (Some x) u = subst (λ v. chunk_by_steps g v (Some x) u) (sym y) p in
      let step = chunk_step s u x f at in
      (at.1, omega (arith, ap length at.0, length-append x.now (chunk_by_rest u)), (subst (AllByRecursion P) step.1 all).0)
  chunk_at P n s t u (v ∷ xs) x f all few y p =
      let step = chunk_step s y.0 v f y.1 in
      let fewer : length (chunk_by_rest y.0) ≤ n = omega (arith, ap length y.1.0, length-append v.now (chunk_by_rest y.0)) in
      chunk_at P n y.0 t u xs x step.0 (subst (AllByRecursion P) step.1 all).1 fewer y.2 p

pub parts_sum : (d : ℕ) (hs : List Hole) → sum_by (λ ks. sum (lengths d (line_of ks))) (map members (lines hs)) ≡ bearing_length d hs
parts_sum d hs =
    let of_part : List Hole → ℕ = λ ks. sum (lengths d (line_of ks)) in
    sym (sum-map of_part (map members (lines hs))) ∙ ap sum (map-map of_part members (lines hs)) ∙ sum-map (λ l. sum (lengths d l)) (lines hs)

-- neighbours in number order
record Follows (d : ℕ) (a b : Hole) : Type 0 where
  before : Before a b
  apart : 64 * (d * d) ≤ 9 * (gap a.x b.x * gap a.x b.x + gap a.y b.y * gap a.y b.y)

rising_from : {X : Type 0} (r : X → X → Type 0) (xs : List X) (n : X) → ((k : ℕ) → suc k < length xs → r (get_or xs k n) (get_or xs (suc k) n)) → Rising r xs
rising_from r [] n f = tt
rising_from r (x ∷ []) n f = tt
rising_from r (x ∷ y ∷ xs) n f = (f 0 (omega arith), rising_from r (y ∷ xs) n (λ k h. f (suc k) (omega arith)))

-- 64 d² ≤ 9 g² gives 8 d ≤ 3 g
root : (d g : ℕ) → 64 * (d * d) ≤ 9 * (g * g) → 8 * d ≤ 3 * g
root d g h = ⊎_elim (λ l. absurd (omega (arith, mul-le-mul l l))) (λ l. l) (cases_lt (3 * g) (8 * d))

next_from : (d : ℕ) (a b : Hole) → a.y ≡ b.y → Follows d a b → Next d a b
next_from d a b e f =
    let beyond : a.x < b.x = ⊎_elim (λ l. absurd (omega arith)) (λ s. s.1) f.before in
    let across : gap a.y b.y ≡ 0 = omega arith in
    let along : gap a.x b.x ≡ b.x - a.x = omega arith in
    let far : 64 * (d * d) ≤ 9 * ((b.x - a.x) * (b.x - a.x) + 0) =
    subst (λ g. 64 * (d * d) ≤ 9 * (g * g + 0)) along (subst (λ g. 64 * (d * d) ≤ 9 * (gap a.x b.x * gap a.x b.x + g * g)) across f.apart) in
    record { level = e; beyond = beyond; apart = root d (b.x - a.x) (omega arith) }

head_from : (l : Line) (ls : List Line) (h : Hole) (hs : List Hole) → flat_map members (l ∷ ls) ≡ h ∷ hs → l.first ≡ h
head_from l ls h hs e = cc

-- only the y of the first counts
rising_head : (k l : Line) (ls : List Line) → k.first.y ≡ l.first.y
    → Rising (λ a b. a.first.y < b.first.y) (l ∷ ls) → Rising (λ a b. a.first.y < b.first.y) (k ∷ ls)
rising_head k l [] e r = tt
rising_head k l (m ∷ ls) e r = (omega (arith, r.0), r.1)

join_lined : (d : ℕ) (h : Hole) (hs : List Hole) (ls : List Line) → Rising (Follows d) (h ∷ hs) → Lined d hs ls → Lined d (h ∷ hs) (join h ls)
join_lined d h [] [] r w = record { together = refl; along = (tt, tt); across = tt }
join_lined d h [] (l ∷ ls) r w = absurd (omega (arith, ap length w.together))
join_lined d h (k ∷ ks) [] r w = absurd (omega (arith, ap length w.together))
join_lined d h (k ∷ ks) (l ∷ ls) r w =
    let head = head_from l ls k ks w.together in
    let new = Lined d (h ∷ k ∷ ks) in
    let here : Follows d h l.first = subst (Follows d h) (sym head) r.0 in
    ⊎_elim
    (λ e. subst new (sym (cond-true (h.y == l.first.y) (line h (members l) ∷ ls) (line h [] ∷ l ∷ ls) (eq-eqb _ _ e))) (record {
      together = ap (λ ms. h ∷ ms) w.together;
      along = ((next_from d h l.first e here, w.along.0), w.along.1);
      across = rising_head (line h (members l)) l ls e w.across;
    }))
    (λ ne. subst new (sym (cond-false (h.y == l.first.y) (line h (members l) ∷ ls) (line h [] ∷ l ∷ ls) (ne_eqb _ _ ne))) (record {
      together = ap (λ ms. h ∷ ms) w.together;
      along = (tt, w.along);
      across = (⊎_elim (λ l. l) (λ s. absurd (ne s.0)) here.before, w.across);
    }))
    (cases_eq h.y l.first.y)

rising_tail : {X : Type 0} (r : X → X → Type 0) (x : X) (xs : List X) → Rising r (x ∷ xs) → Rising r xs
rising_tail r x [] f = tt
rising_tail r x (y ∷ xs) f = f.1

all_lined : (d : ℕ) (hs : List Hole) → Rising (Follows d) hs → Lined d hs (lines hs)
all_lined d [] r = record { together = refl; along = tt; across = tt }
all_lined d (h ∷ hs) r = join_lined d h hs (lines hs) r (all_lined d hs (rising_tail (Follows d) h hs r))

pub sound_lined : (d : Details) → Sound d → Lined (diameter_of d.bolt.size) d.holes (lines d.holes)
sound_lined d w =
    all_lined _ d.holes (rising_from (Follows (diameter_of d.bolt.size)) d.holes no_hole
    (λ k h. record { before = w.order k (suc k) (omega arith) h; apart = w.spaced k (suc k) (omega arith) h }))

rising_adjacent : {X : Type 0} (r : X → X → Type 0) (xs : List X) → Rising r xs → AllAdjacentBelow r xs (length xs)
rising_adjacent r [] f k d n = absurd (omega arith)
rising_adjacent r (x ∷ []) f k d n = absurd (omega arith)
rising_adjacent r (x ∷ y ∷ xs) f zero d n = f.0
rising_adjacent r (x ∷ y ∷ xs) f (suc k) d n =
    let next : suc (k + 1) ≡ suc k + 1 = omega arith in
    subst (λ j. r (get_or (y ∷ xs) k d) (get_or (x ∷ y ∷ xs) j d)) next (rising_adjacent r (y ∷ xs) f.1 k d (omega arith))

-- a part of a sound joint's holes, where y changes, is a line that the code takes
module _ (d : Details) (w : Sound d) {F : Type 0} (g : Mut F (Bor Hole × (Bor Hole × Unit {0})) Bool) where
  pub chunk_in_line : (n : ℕ) → n ≡ diameter_of d.bolt.size → (s t u : ChunkBy Hole F) (xs : List (Bor (List Hole))) (x : Bor (List Hole))
      → ComputesOnPairs g level (chunk_by_callee s) → chunk_by_rest s ≡ d.holes → Yields (chunk_by_steps g) s xs t → chunk_by_steps g t (Some x) u → InLine n x.now
  chunk_in_line n n-is s t u xs x f s-is y p =
      let n = diameter_of d.bolt.size in
      let along = subst (λ hs. AllByRecursion (λ l. Rising (Next n) (members l)) (lines hs)) (sym s-is) (sound_lined d w).along in
      let few : length (chunk_by_rest s) ≤ 32 = omega (arith, ap length s-is, w.few) in
      let at = chunk_at g (λ l. Rising (Next n) (members l)) 32 s t u xs x f along few y p in
      subst (λ m. InLine m x.now) (sym n-is) (record {
        some = at.0;
        few = at.1;
        small = diameter_most d.bolt.size;
        rising = rising_adjacent (Next n) x.now (subst (Rising (Next n)) (whole_line x.now at.0) at.2);
      })
