-- One more hole in the row, and one fewer.
use Rattle.std.proofs.Common.{◌≡◌, ℕ, suc, ◌+◌, ◌-◌, ◌<◌, ◌≤◌, true, false, cond, not, ◌||◌, ltb, List, [], ◌∷◌, ◌++◌, length, take, drop, set, Some, None, insert, remove, position, sym, refl, ap, ◌∙◌, add-one, arith}
use Rattle.std.specs.List.{prefix_len, position_or_len}
use borrow.Rule.Slice.PartMut.{put_mid}
use Rattle.std.proofs.lemmas.List.{length-take-le, length-drop, length-set, length_push, take_more_set, drop-append-le, drop-drop, length-append, append_assoc, take-take, take-set-le, take_at, drop_at}
use Rattle.std.proofs.lemmas.Slice.{between_is, take-put_mid}
use Rattle.std.proofs.lemmas.Bool.Decides.{nat_tests}
use Rattle.std.proofs.Math.Numerals.{one-add}
use Rattle.std.proofs.lemmas.Option.{cond_some}
use Rattle.std.proofs.lemmas.Bool.{ltb-true}
use Rattle.parts.specs.declared.hole.Hole.{Hole}
use Rattle.parts.specs.Holes.{before, apart, centred}
use Rattle.sheet.specs.Law.{add, crowding, has_centre, without}

-- h goes in after those that come before it
pub add_is : (h : Hole) (hs : List Hole) → add h hs ≡ insert hs (prefix_len (λ k. before k h) hs) h
add_is h [] = refl
add_is h (k ∷ ks) =
    let n = prefix_len (λ k. before k h) ks in
    elim (before k h) as (λ b. cond b (k ∷ add h ks) (h ∷ k ∷ ks) ≡ insert (k ∷ ks) (cond b (1 + n) 0) h)
    [ true ↦ rw one-add (ap (λ l. k ∷ l) (add_is h ks)) | false ↦ refl ]

module _ (x y : ℕ) where
  -- how many holes come before the one whose centre is there
  earlier : List Hole → ℕ
  earlier hs = prefix_len (λ k. not (centred x y k)) hs

  -- the hole is there where its place is one
  centre_is : (hs : List Hole) → has_centre x y hs ≡ ltb (earlier hs) (length hs)
  unfolding earlier
  centre_is [] = refl
  centre_is (k ∷ ks) =
      elim (centred x y k) as (λ b. (b || has_centre x y ks) ≡ ltb (cond (not b) (1 + earlier ks) 0) (length (k ∷ ks)))
      [ true ↦ grind (arith, nat_tests) | false ↦ centre_is ks ∙ grind (arith, nat_tests) ]

  without_is : (hs : List Hole) → has_centre x y hs ≡ true → without x y hs ≡ remove hs (earlier hs)
  unfolding earlier
  without_is [] e = refl
  without_is (k ∷ ks) e =
      elim (centred x y k) as (λ b. (b || has_centre x y ks) ≡ true → cond b ks (k ∷ without x y ks) ≡ remove (k ∷ ks) (cond (not b) (1 + earlier ks) 0))
      [ true ↦ λ _. refl | false ↦ λ e. rw one-add (ap (λ l. k ∷ l) (without_is ks e)) ] e

  -- no place is no hole, and a place is that of the hole that leaves
  pub no_centre : (hs : List Hole) → position (centred x y) hs ≡ None → has_centre x y hs ≡ false
  unfolding earlier
  no_centre hs e = grind (arith, nat_tests, centre_is hs, e)

  pub at_centre : (hs : List Hole) (i : ℕ) → position (centred x y) hs ≡ Some i → (i < length hs) × (has_centre x y hs ≡ true) × (without x y hs ≡ remove hs i)
  unfolding earlier
  at_centre hs i e =
      let is = cond_some _ _ _ e in
      let some = centre_is hs ∙ is.0 in
      (omega (arith, ltb-true _ _ is.0, is.1), some, without_is hs some ∙ ap (remove hs) is.1)

module _ (d : ℕ) (h : Hole) where
  -- how many holes come before the first that is too close
  clear : List Hole → ℕ
  clear hs = position_or_len (λ k. not (apart d k h)) hs

  -- the number of that hole, counted from n
  crowding_is : (hs : List Hole) (n : ℕ) → crowding d h hs n ≡ cond (ltb (clear hs) (length hs)) (Some (n + clear hs)) None
  unfolding clear
  crowding_is [] n = refl
  crowding_is (k ∷ ks) n =
      elim (apart d k h) as (λ b. cond b (crowding d h ks (n + 1)) (Some n) ≡ cond (ltb (cond (not (not b)) (1 + clear ks) 0) (length (k ∷ ks))) (Some (n + cond (not (not b)) (1 + clear ks) 0)) None)
      [ true ↦ crowding_is ks (n + 1) ∙ grind (arith, nat_tests) | false ↦ grind (arith, nat_tests) ]

  -- no place is no hole that is too close, and a place is one less than its number
  pub none_crowds : (hs : List Hole) → None ≡ position (λ k. not (apart d k h)) hs → crowding d h hs 1 ≡ None
  unfolding clear
  none_crowds hs e = crowding_is hs 1 ∙ grind (arith, nat_tests, e)

  pub first_crowds : (hs : List Hole) (i : ℕ) → Some i ≡ position (λ k. not (apart d k h)) hs → crowding d h hs 1 ≡ Some (i + 1)
  unfolding clear
  first_crowds hs i e = crowding_is hs 1 ∙ grind (arith, nat_tests, e)

module _ {X : Type 0} (xs : List X) (n p : ℕ) (h : X) (within : n < length xs) (early : p ≤ n) where
  long : length (take n xs) ≡ n
  long = length-take-le n xs (omega arith)

  part : take ((n + 1) - p) (drop p (set xs n h)) ≡ drop p (take n xs) ++ h ∷ []
  part =
      between_is (set xs n h) p (n + 1) ∙ ap (drop p) (take_more_set xs n h within)
      ∙ drop-append-le p (take n xs) (h ∷ []) (omega (arith, long))

  pub rotated : (m r : List X) → m ≡ take ((n + 1) - p) (drop p (set xs n h)) → r ≡ drop (length m - 1) m ++ take (length m - 1) m → r ≡ h ∷ drop p (take n xs)
  rotated m r is after =
      let q = drop p (take n xs) in
      let e : m ≡ q ++ h ∷ [] = is ∙ part in
      let l : length q ≡ length m - 1 = omega (arith, ap length e ∙ length_push q h) in
      after ∙ ap (λ w. drop (length m - 1) w ++ take (length m - 1) w) e
      ∙ ap (λ w. w ++ take (length m - 1) (q ++ h ∷ [])) (drop_at q (h ∷ []) (length m - 1) l)
      ∙ ap (λ w. h ∷ w) (take_at q (h ∷ []) (length m - 1) l)

  pub row_after : (r : List X) → r ≡ h ∷ drop p (take n xs) → take (n + 1) (put_mid p ((n + 1) - p) (set xs n h) r) ≡ insert (take n xs) p h
  row_after r is =
      let s = length-set xs n h in
      let l = ap length is in
      let d = length-drop p (take n xs) in
      take-put_mid p ((n + 1) - p) (set xs n h) r (n + 1) (omega (arith, l, d, long)) (omega (arith, s))
      ∙ ap (λ w. w ++ r) (take-set-le p xs n h early ∙ sym (take-take p n xs early))
      ∙ ap (λ w. take p (take n xs) ++ w) is

module _ {X : Type 0} (xs : List X) (n p : ℕ) (within : n ≤ length xs) (early : p < n) where
  whole : length (take n xs) ≡ n
  whole = length-take-le n xs within

  pub row_less : (m r : List X) → m ≡ take (n - p) (drop p xs) → r ≡ drop 1 m ++ take 1 m → take (n - 1) (put_mid p (n - p) xs r) ≡ remove (take n xs) p
  row_less m r is after =
      let e : m ≡ drop p (take n xs) = is ∙ between_is xs p n in
      let q : drop 1 m ≡ drop (suc p) (take n xs) = ap (drop 1) e ∙ drop-drop 1 p (take n xs) ∙ ap (λ i. drop i (take n xs)) (add-one p) in
      let lm : length m ≡ n - p = ap length e ∙ length-drop p (take n xs) ∙ ap (λ w. w - p) whole in
      let l1 = length-drop 1 m in
      let lr : length r ≡ n - p = omega (arith, ap length after ∙ length-append (drop 1 m) (take 1 m), l1, length-take-le 1 m (omega (arith, lm)), lm) in
      let tp : take p xs ≡ take p (take n xs) = sym (take-take p n xs (omega arith)) in
      let lt : length (take p xs) ≡ p = length-take-le p xs (omega arith) in
      sym (take-take (n - 1) n (put_mid p (n - p) xs r) (omega arith))
      ∙ ap (take (n - 1)) (take-put_mid p (n - p) xs r n (omega (arith, lr)) (omega arith) ∙ ap (λ w. take p xs ++ w) after ∙ sym (append_assoc (take p xs) (drop 1 m) (take 1 m)))
      ∙ take_at (take p xs ++ drop 1 m) (take 1 m) (n - 1) (omega (arith, length-append (take p xs) (drop 1 m), l1, lm, lt))
      ∙ (λ i. tp i ++ q i)
