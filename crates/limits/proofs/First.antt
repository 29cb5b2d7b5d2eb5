-- The first of the best: of one, of two lists put together, and what follows of it.
use Rattle.std.proofs.Common.{◌≡◌, ℕ, suc, ◌+◌, ◌<◌, List, [], ◌∷◌, ◌++◌, length, get_or, take, sym, refl, ap, ◌∙◌, subst, add-zero, arith}
use Rattle.std.specs.List.{AllByRecursion}
use Rattle.std.proofs.lemmas.List.{append_assoc, length-append, take_more, length-take-le}
use Rattle.std.proofs.ByRecursion.{All-append, All-weaker}
use Rattle.limits.specs.Foremost.{Foremost, Ranking}

pub lone_first : {X : Type 0} (beats : X → X → Type 0) (x : X) → Foremost beats (x ∷ []) 0 x
lone_first beats x = record { before = []; after = []; stands = refl; place = refl; ahead = tt; unbeaten = tt }

module _ {X : Type 0} {beats : X → X → Type 0} (o : Ranking beats) where
  pub none_beats : {xs : List X} {k : ℕ} {r : X} → Foremost beats xs k r → AllByRecursion (λ x. beats x r → ⊥) xs
  none_beats {xs} {k} {r} w =
      let front = All-weaker (λ x. beats r x) (λ x. beats x r → ⊥) (λ x h b. o.once r x h b) w.before w.ahead in
      subst (AllByRecursion (λ x. beats x r → ⊥)) (sym w.stands)
      (All-append (λ x. beats x r → ⊥) w.before (r ∷ w.after) front ((λ b. o.once r r b b), w.unbeaten))

  pub second_wins : {xs ys : List X} {j k : ℕ} {p q : X} → Foremost beats xs j p → Foremost beats ys k q → beats q p → Foremost beats (xs ++ ys) (length xs + k) q
  second_wins {xs} {ys} {j} {k} {p} {q} u v less = record {
    before = xs ++ v.before;
    after = v.after;
    stands = ap (λ zs. xs ++ zs) v.stands ∙ sym (append_assoc xs v.before (q ∷ v.after));
    place = length-append xs v.before ∙ ap (λ n. length xs + n) v.place;
    ahead = All-append (λ x. beats q x) xs v.before
        (All-weaker (λ x. beats x p → ⊥) (λ x. beats q x) (λ x h. o.chase q p x less h) xs (none_beats u)) v.ahead;
    unbeaten = v.unbeaten;
  }

  pub first_wins : {xs ys : List X} {j k : ℕ} {p q : X} → Foremost beats xs j p → Foremost beats ys k q → (beats q p → ⊥) → Foremost beats (xs ++ ys) j p
  first_wins {xs} {ys} {j} {k} {p} {q} u v less = record {
    before = u.before;
    after = u.after ++ ys;
    stands = ap (λ zs. zs ++ ys) u.stands ∙ append_assoc u.before (p ∷ u.after) ys;
    place = u.place;
    ahead = u.ahead;
    unbeaten = All-append (λ x. beats x p → ⊥) u.after ys u.unbeaten
        (All-weaker (λ x. beats x q → ⊥) (λ x. beats x p → ⊥) (λ x h. o.chain p q x less h) ys (none_beats v));
  }

pub first_none : {X : Type 0} (beats : X → X → Type 0) (xs : List X) (d : X) → 0 < length xs → Foremost beats (take 1 xs) 0 (get_or xs 0 d)
first_none beats [] d h = absurd (omega arith)
first_none beats (x ∷ xs) d h = lone_first beats x

-- a loop's step: the one at i does not beat the best so far, or does
module _ {X : Type 0} {beats : X → X → Type 0} (o : Ranking beats) (xs : List X) (d : X) (i k : ℕ) (v : X)
    (in' : i < length xs) (so : Foremost beats (take i xs) k v) where
  pub first_keeps : (beats (get_or xs i d) v → ⊥) → Foremost beats (take (i + 1) xs) k v
  first_keeps h =
      subst (λ ys. Foremost beats ys k v) (sym (take_more xs i d in'))
      (first_wins o so (lone_first beats (get_or xs i d)) h)

  pub first_takes : beats (get_or xs i d) v → Foremost beats (take (i + 1) xs) i (get_or xs i d)
  first_takes h =
      let n : length (take i xs) ≡ i = length-take-le i xs (omega arith) in
      subst (λ ys. Foremost beats ys i (get_or xs i d)) (sym (take_more xs i d in'))
      (subst (λ m. Foremost beats (take i xs ++ get_or xs i d ∷ []) m (get_or xs i d)) (add-zero _ ∙ n)
      (second_wins o so (lone_first beats (get_or xs i d)) h))

all_at : {X : Type 0} (P : X → Type 0) (before after : List X) (r : X) → AllByRecursion P (before ++ (r ∷ after)) → P r
all_at P [] after r h = h.0
all_at P (x ∷ before) after r h = all_at P before after r h.1

-- what holds of all holds of the first of the best
pub all_foremost : {X : Type 0} {beats : X → X → Type 0} (P : X → Type 0) {xs : List X} {k : ℕ} {r : X} → Foremost beats xs k r → AllByRecursion P xs → P r
all_foremost P {xs} {k} {r} w h = all_at P w.before w.after r (subst (AllByRecursion P) w.stands h)

pub all_both : {X : Type 0} (P Q : X → Type 0) (xs : List X) → AllByRecursion P xs → AllByRecursion Q xs → AllByRecursion (λ x. P x × Q x) xs
all_both P Q [] p q = tt
all_both P Q (x ∷ xs) p q = ((p.0, q.0), all_both P Q xs p.1 q.1)

-- the first of the best is one
module _ {X : Type 0} {beats : X → X → Type 0} (o : Ranking beats) where
  split_once : (b₁ b₂ a₁ a₂ : List X) (p q : X) → b₁ ++ (p ∷ a₁) ≡ b₂ ++ (q ∷ a₂)
      → AllByRecursion (λ x. beats p x) b₁ → AllByRecursion (λ x. beats x p → ⊥) a₁ → AllByRecursion (λ x. beats q x) b₂ → AllByRecursion (λ x. beats x q → ⊥) a₂
      → (length b₁ ≡ length b₂) × (p ≡ q)
  split_once [] [] a₁ a₂ p q e ah₁ un₁ ah₂ un₂ = (refl, cc)
  split_once [] (x ∷ b₂) a₁ a₂ p q e ah₁ un₁ ah₂ un₂ =
      let head : x ≡ p = cc in
      let tail : a₁ ≡ b₂ ++ (q ∷ a₂) = cc in
      absurd (all_at (λ y. beats y p → ⊥) b₂ a₂ q (subst (AllByRecursion (λ y. beats y p → ⊥)) tail un₁) (subst (beats q) head ah₂.0))
  split_once (x ∷ b₁) [] a₁ a₂ p q e ah₁ un₁ ah₂ un₂ =
      let head : x ≡ q = cc in
      let tail : a₂ ≡ b₁ ++ (p ∷ a₁) = cc in
      absurd (all_at (λ y. beats y q → ⊥) b₁ a₁ p (subst (AllByRecursion (λ y. beats y q → ⊥)) tail un₂) (subst (beats p) head ah₁.0))
  split_once (x ∷ b₁) (y ∷ b₂) a₁ a₂ p q e ah₁ un₁ ah₂ un₂ =
      let tail : b₁ ++ (p ∷ a₁) ≡ b₂ ++ (q ∷ a₂) = cc in
      let so = split_once b₁ b₂ a₁ a₂ p q tail ah₁.1 un₁ ah₂.1 un₂ in
      (ap suc so.0, so.1)

  pub foremost_once : {xs : List X} {j k : ℕ} {p q : X} → Foremost beats xs j p → Foremost beats xs k q → (j ≡ k) × (p ≡ q)
  foremost_once u v =
      let so = split_once u.before v.before u.after v.after _ _ (sym u.stands ∙ v.stands) u.ahead u.unbeaten v.ahead v.unbeaten in
      (sym u.place ∙ so.0 ∙ v.place, so.1)
