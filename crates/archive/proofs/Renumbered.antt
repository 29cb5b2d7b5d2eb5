-- Holes that stand in number order, put one after another: each is accepted, and they keep their numbers.
use Rattle.std.proofs.Common.{◌≡◌, ℕ, suc, ◌+◌, ◌<◌, ◌≤◌, Bool, true, List, [], ◌∷◌, ◌++◌, reverse, length, get_or, None, sym, refl, ap, ◌∙◌, subst, inl, inr, append_assoc, append-nil, arith, length-append}
use mathlib.Core.List.{reverse_aux}
use Rattle.std.proofs.lemmas.List.{length-reverse}
use Rattle.std.proofs.lemmas.Bool.{and_parts, and_from, cond-true, cond-false, le-leb, lt-leb, lt-ltb, eq-eqb, not_from_true, or_left, or_right}
use Rattle.parts.specs.declared.bar.Bar.{Bar}
use Rattle.parts.specs.declared.bolt.Bolt.{Bolt}
use Rattle.parts.specs.declared.hole.Hole.{Hole}
use Rattle.parts.specs.Holes.{before, apart, placed, drilled}
use Rattle.parts.specs.Sizes.{diameter_of}
use Rattle.reading.specs.Beginnings.{numbered, HolesGood}
use Rattle.sheet.specs.Account.{first}
use Rattle.sheet.specs.Calls.{crowd_line, hole_fault}
use Rattle.sheet.specs.Details.{Details, Sound, Placed, Drilled, Before, no_hole}
use Rattle.sheet.specs.Law.{each, pairs, crowding, add}
use Rattle.sheet.proofs.Holes.{put_fault_at}

-- ---- a hole after all others

add_last : (h : Hole) (ks : List Hole) → each (λ k. before k h) ks ≡ true → add h ks ≡ ks ++ h ∷ []
add_last h [] e = refl
add_last h (k ∷ ks) e =
    let both = and_parts (before k h) (each (λ k. before k h) ks) e in
    cond-true _ _ _ both.0 ∙ ap (λ l. k ∷ l) (add_last h ks both.1)

crowd_free : (d : ℕ) (h : Hole) (ks : List Hole) (n : ℕ) → each (λ k. apart d k h) ks ≡ true → crowding d h ks n ≡ None
crowd_free d h [] n e = refl
crowd_free d h (k ∷ ks) n e =
    let both = and_parts (apart d k h) (each (λ k. apart d k h) ks) e in
    cond-true _ _ _ both.0 ∙ crowd_free d h ks (n + 1) both.1

each_in : (p : Hole → Bool) (ks : List Hole) (h : Hole) (hs : List Hole) → each p (ks ++ h ∷ hs) ≡ true → p h ≡ true
each_in p [] h hs e = (and_parts (p h) (each p hs) e).0
each_in p (k ∷ ks) h hs e = each_in p ks h hs (and_parts (p k) (each p (ks ++ h ∷ hs)) e).1

pairs_in : (r : Hole → Hole → Bool) (ks : List Hole) (h : Hole) (hs : List Hole) → pairs r (ks ++ h ∷ hs) ≡ true → each (λ k. r k h) ks ≡ true
pairs_in r [] h hs e = refl
pairs_in r (k ∷ ks) h hs e =
    let both = and_parts (each (r k) (ks ++ h ∷ hs)) (pairs r (ks ++ h ∷ hs)) e in
    and_from _ _ (each_in (r k) ks h hs both.0) (pairs_in r ks h hs both.1)

each_from : (p : Hole → Bool) (hs : List Hole) → ((k : ℕ) → k < length hs → p (get_or hs k no_hole) ≡ true) → each p hs ≡ true
each_from p [] at = refl
each_from p (h ∷ hs) at = and_from _ _ (at 0 (omega arith)) (each_from p hs (λ k lt. at (suc k) (omega arith)))

pairs_from : (r : Hole → Hole → Bool) (hs : List Hole) → ((j k : ℕ) → j < k → k < length hs → r (get_or hs j no_hole) (get_or hs k no_hole) ≡ true) → pairs r hs ≡ true
pairs_from r [] at = refl
pairs_from r (h ∷ hs) at =
    and_from _ _ (each_from (r h) hs (λ k lt. at 0 (suc k) (omega arith) (omega arith)))
    (pairs_from r hs (λ j k lt in'. at (suc j) (suc k) (omega arith) (omega arith)))

-- ---- one hole more

module _ (bar : Bar) (bolt : Bolt) where
  -- the holes of a sheet with this bar and bolt
  record Row (hs : List Hole) : Type 0 where
    placed : each (placed bar) hs ≡ true
    drilled : each (drilled bolt) hs ≡ true
    order : pairs before hs ≡ true
    spaced : pairs (apart (diameter_of bolt.size)) hs ≡ true

  free_hole : (hs : List Hole) (h : Hole) → length hs < 32 → drilled bolt h ≡ true → placed bar h ≡ true → crowding (diameter_of bolt.size) h hs 1 ≡ None → None ≡ hole_fault bar bolt hs h
  free_hole hs h few d p free =
      sym (cond-false _ _ _ (lt-leb 32 (length hs) few) ∙ cond-false _ _ _ (not_from_true _ d) ∙ cond-false _ _ _ (not_from_true _ p) ∙ ap (λ o. first (crowd_line o)) free)

  row_free : (ks : List Hole) (h : Hole) (hs : List Hole) → Row (ks ++ h ∷ hs) → length ks < 32 → None ≡ hole_fault bar bolt ks h
  row_free ks h hs row few =
      free_hole ks h few (each_in (drilled bolt) ks h hs row.drilled) (each_in (placed bar) ks h hs row.placed)
      (crowd_free _ h ks 1 (pairs_in (apart (diameter_of bolt.size)) ks h hs row.spaced))

  -- zs have come, the last first, and hs are to come
  put_all : (n : ℕ) (hs zs ks : List Hole) → n ≤ 32 → length (ks ++ hs) ≡ n → length zs ≡ length ks → numbered zs ≡ ks → Row (ks ++ hs) → HolesGood bar bolt n zs
      → HolesGood bar bolt n (reverse_aux hs zs) × (numbered (reverse_aux hs zs) ≡ ks ++ hs)
  put_all n [] zs ks few many same is row good = (good, is ∙ sym (append-nil ks))
  put_all n (h ∷ hs) zs ks few many same is row good =
      let long = length-append ks (h ∷ hs) in
      let free = put_fault_at bar bolt h refl refl (sym is) (row_free ks h hs row (omega arith)) in
      let last = ap (add h) is ∙ add_last h ks (pairs_in before ks h hs row.order) in
      let group = append_assoc ks (h ∷ []) hs in
      let more = put_all n hs (h ∷ zs) (ks ++ h ∷ []) few (ap length group ∙ many) (omega (arith, length-append ks (h ∷ []))) last
      (subst Row (sym group) row) (good, omega arith, sym free) in
      (more.0, more.1 ∙ group)

-- ---- the holes of a joint

is_placed : (bar : Bar) (h : Hole) → Placed bar h → placed bar h ≡ true
is_placed bar h p = and_from _ _ (and_from _ _ (le-leb _ _ p.x_low) (le-leb _ _ p.x_high)) (and_from _ _ (le-leb _ _ p.y_low) (le-leb _ _ p.y_high))

is_drilled : (bolt : Bolt) (h : Hole) → Drilled bolt h → drilled bolt h ≡ true
is_drilled bolt h p = and_from _ _ (le-leb _ _ p.low) (le-leb _ _ p.high)

is_before : (a b : Hole) → Before a b → before a b ≡ true
is_before a b (inl lt) = or_left _ _ (lt-ltb _ _ lt)
is_before a b (inr p) = or_right _ _ (and_from _ _ (eq-eqb _ _ p.0) (lt-ltb _ _ p.1))

module _ (d : Details) (sound : Sound d) where
  row_of : Row d.bar d.bolt d.holes
  row_of =
      record {
        placed = each_from _ d.holes (λ k lt. is_placed d.bar _ (sound.placed k lt));
        drilled = each_from _ d.holes (λ k lt. is_drilled d.bolt _ (sound.drilled k lt));
        order = pairs_from _ d.holes (λ j k lt in'. is_before (get_or d.holes j no_hole) (get_or d.holes k no_hole) (sound.order j k lt in'));
        spaced = pairs_from _ d.holes (λ j k lt in'. le-leb _ _ (sound.spaced j k lt in'));
      }

  pub put_again : HolesGood d.bar d.bolt (length (reverse d.holes)) (reverse d.holes) × (numbered (reverse d.holes) ≡ d.holes)
  put_again =
      let many = length-reverse d.holes in
      put_all d.bar d.bolt _ d.holes [] [] (omega (arith, many, sound.few)) (sym many) refl refl row_of tt
