-- `min_by_key` over `enumerate`: the first place of the least key.
use Rattle.std.proofs.Common.{◌≡◌, ℕ, ◌<◌, Bool, true, false, cond, List, [], ◌∷◌, length, get_or, ℤ, ◌≤ℤ◌, ◌<ℤ◌, Option, None, Some, Bor, sym, refl, ap, ◌∙◌, subst, zero-add, rules, arith}
use denote.Param.Members.{Mut}
use Rattle.std.specs.Cmp.{IsTotalOrder}
use Rattle.std.specs.declared.cmp.Ordering.{Ordering}
use Rattle.std.specs.declared.cmp.Ordering.TheVariants.{Less, Equal, Greater}
use Rattle.std.specs.Ordering.{is_lt, int_cmp, ordering_reverse, min_by_ordering}
use Rattle.std.specs.Fn.{CalledAt, ComputesKey}
use Rattle.std.specs.Iterator.{KeyTurn, Drains, PicksMinByKey}
use Rattle.std.specs.List.{FoldsTo, IsFirstBest, best_of, reduce, enumerate_from}
use Rattle.std.specs.Option.{MatchOption, option_map}
use Rattle.std.proofs.lemmas.Iterator.{YieldsList}
use Rattle.std.proofs.lemmas.Iterator.Consumers.{reduce_by_from_yields_List}
use Rattle.std.proofs.lemmas.List.{get_or_default}
use Rattle.std.proofs.lemmas.List.FromFn.{length-enumerate_from, get_or-enumerate_from}
use Rattle.std.proofs.lemmas.List.MinMax.{ranks_by, IsFirstBest-from_best_of}

module _ {A F K : Type 0} (g : Mut F (Bor A × Unit {0}) K) {cmp : K → K → Ordering} (law : IsTotalOrder cmp) (key : A → K) where
  -- the one of less key, the first of equals
  abbrev lesser : A → A → A
  lesser p z = cond (is_lt (cmp (key z) (key p))) z p

  -- what a call says, and that further calls say as much
  said : (f f' : F) (x : A) (k : K) → CalledAt g f x k f' → ComputesKey g key f → (k ≡ key x) × ComputesKey g key f'
  said f f' x k call computes = (
    (computes.at ((call.shown, tt) ∷ []) k f' call.called).0 ∙ ap key call.shows,
    record { at = λ xs. (computes.at ((call.shown, tt) ∷ xs) k f' call.called).1 },
  )

  picked : {X : Type 0} (o : Ordering) (p z : X) → min_by_ordering o p z ≡ cond (is_lt (ordering_reverse o)) z p
  picked Less p z = refl
  picked Equal p z = refl
  picked Greater p z = refl

  key_of : (b : Bool) (p z : A) → cond b (key z) (key p) ≡ key (cond b z p)
  key_of true p z = refl
  key_of false p z = refl

  -- the turns keep the lesser, and its key
  folded : (xs : List A) (p q : (F × K) × A) → ComputesKey g key p.0.0 → p.0.1 ≡ key p.1
      → FoldsTo {P = (F × K) × A} (KeyTurn min_by_ordering min_by_ordering g cmp) p xs q → FoldsTo (λ y z c. c ≡ lesser y z) p.1 xs q.1
  folded [] p q computes same turns = ap (λ s. s.1) turns
  folded (z ∷ xs) p q computes same turns =
      let next = turns.0 in
      let turn = turns.1 in
      let call = said p.0.0 next.0.0 z turn.0 turn.2 computes in
      let back : ordering_reverse turn.1 ≡ cmp (key z) (key p.1) =
      ap ordering_reverse (sym turn.3) ∙ sym (law.antisymm turn.0 p.0.1) ∙ ap (λ k. cmp turn.0 k) same ∙ ap (λ k. cmp k (key p.1)) call.0 in
      let item : next.1 ≡ lesser p.1 z = turn.5 ∙ picked turn.1 p.1 z ∙ ap (λ o. cond (is_lt o) z p.1) back in
      let kept : next.0.1 ≡ key next.1 =
      turn.4 ∙ picked turn.1 p.0.1 turn.0 ∙ ap (λ o. cond (is_lt o) turn.0 p.0.1) back
      ∙ ap (λ k. cond (is_lt (cmp (key z) (key p.1))) k p.0.1) call.0 ∙ ap (λ k. cond (is_lt (cmp (key z) (key p.1))) (key z) k) same
      ∙ key_of (is_lt (cmp (key z) (key p.1))) p.1 z ∙ ap key (sym item) in
      (next.1, item, folded xs next q call.1 kept turns.2)

  module _ {S : Type 0} (steps : S → Option A → S → Type 0) (s : S) (f : F) (computes : ComputesKey g key f) where
    reduces : (r : Option A) → PicksMinByKey steps g cmp s f r
        → MatchOption r (Drains steps s []) (λ y. (x : A) × (xs : List A) × Drains steps s (x ∷ xs) × FoldsTo (λ p z c. c ≡ lesser p z) x xs y)
    reduces None h = h
    reduces (Some y) h =
        let first = said f h.3 h.0 h.2 h.6 computes in
        (h.0, h.1, h.5, folded h.1 ((h.3, h.2), h.0) (h.4, y) first.1 first.0 h.7)

-- ---- integers
pub less : (x y : ℤ) → is_lt (int_cmp x y) ≡ true → x <ℤ y
less x y e = search (rules, e)

pub not_less : (x y : ℤ) → is_lt (int_cmp x y) ≡ false → y ≤ℤ x
not_less x y e = search (rules, e)

-- ---- the items of an `enumerate`
module _ {B K : Type 0} {cmp : K → K → Ordering} (law : IsTotalOrder cmp) (h : B → K) where
  -- of less key
  abbrev pub Under : B → B → Bool
  Under a b = is_lt (cmp (h a) (h b))

  -- the lesser of two numbered items
  abbrev sooner : ℕ × B → ℕ × B → ℕ × B
  sooner p z = cond (Under z.1 p.1) z p

  item : (xs : List B) (k : ℕ) (d : B) → k < length xs → (get_or (enumerate_from 0 xs) k (0, d)).1 ≡ get_or xs k d
  item xs k d lt = ap (λ p. p.1) (get_or-enumerate_from 0 xs k (0, d) lt)

  -- the first best of the numbered items stands at the place that it is numbered by
  placed : (xs : List B) (e : ℕ) (y : ℕ × B) (d : B) → IsFirstBest (λ a b. Under a.1 b.1) (enumerate_from 0 xs) (length (enumerate_from 0 xs)) e → y ≡ get_or (enumerate_from 0 xs) e (0, d)
      → (y.0 ≡ e) × IsFirstBest Under xs (length xs) e × ((d : B) → y.1 ≡ get_or xs e d)
  placed xs e y d best is =
      let long = length-enumerate_from 0 xs in
      let within : e < length xs = omega (arith, best.0, long) in (
        ap (λ p. p.0) (is ∙ get_or-enumerate_from 0 xs e (0, d) within) ∙ zero-add e,
        (
          within,
          (λ k c lt.
              ap (λ a. Under a (get_or xs e c)) (sym (item xs k c lt)) ∙ ap (λ b. Under (get_or (enumerate_from 0 xs) k (0, c)).1 b) (sym (item xs e c within))
              ∙ best.1 k (0, c) (omega (arith, long))),
          (λ k c lt.
              ap (λ b. Under (get_or xs e c) b) (sym (item xs k c (omega (arith, within)))) ∙ ap (λ a. Under a (get_or (enumerate_from 0 xs) k (0, c)).1) (sym (item xs e c within))
              ∙ best.2 k (0, c) lt),
        ),
        (λ c. ap (λ p. p.1) is ∙ item xs e d within ∙ get_or_default xs e d c within),
      )

  reduced : (xs : List B) (y : ℕ × B) → Some y ≡ reduce sooner (enumerate_from 0 xs) → IsFirstBest Under xs (length xs) y.0 × ((d : B) → y.1 ≡ get_or xs y.0 d)
  reduced [] y e = absurd (some_not_none e)
    where
      some_not_none : Some y ≡ None → ⊥
      some_not_none e = cc
  reduced (x ∷ xs) y e =
      let first = IsFirstBest-from_best_of (ranks_by law (λ (p : ℕ × B). h p.1)) (0, x) (enumerate_from 1 xs) in
      let is : y ≡ best_of (λ (a b : ℕ × B). Under a.1 b.1) (0, x) (enumerate_from 1 xs) = cc in
      let found = placed (x ∷ xs) first.0 y x first.1 (is ∙ sym first.2) in (
        subst (IsFirstBest Under (x ∷ xs) (length (x ∷ xs))) (sym found.0) found.1,
        (λ d. found.2 d ∙ ap (λ k. get_or (x ∷ xs) k d) (sym found.0)),
      )

  -- an item as it is read
  abbrev pub read : ℕ × Bor B → ℕ × B
  read p = (p.0, p.1.now)

  shown : (b : Bool) (p z : ℕ × Bor B) → read (cond b z p) ≡ cond b (read z) (read p)
  shown true p z = refl
  shown false p z = refl

  -- the answer is the first item of the least key, with its place
  pub first_by_key : {S F : Type 0} {steps : S → Option (ℕ × Bor B) → S → Type 0} (g : Mut F (Bor (ℕ × Bor B) × Unit {0}) K) (s : S) (f : F) (r : Option (ℕ × Bor B)) (xs : List B) (y : ℕ × Bor B)
      → PicksMinByKey steps g cmp s f r → YieldsList {B = ℕ × B} steps read s (enumerate_from 0 xs) → ComputesKey g (λ p. h p.1.now) f → r ≡ Some y
      → IsFirstBest Under xs (length xs) y.0 × ((d : B) → y.1.now ≡ get_or xs y.0 d)
  first_by_key {steps = steps} g s f r xs y picks yields computes e =
      reduced xs (read y)
      (ap (option_map read) (sym e)
      ∙ reduce_by_from_yields_List (lesser g law (λ p. h p.1.now)) sooner s r (λ p z. shown (Under z.1.now p.1.now) p z) (reduces g law (λ p. h p.1.now) steps s f computes r picks) yields)
