-- The numbers that falling steps lead through.
use Rattle.std.proofs.Common.{◌≡◌, ℕ, zero, suc, ◌<◌, ◌≤◌, List, ◌∷◌, ◌++◌, length, Option, None, Some, refl, ap, ◌∙◌, arith}
use Rattle.std.proofs.lemmas.List.{get_or_append_left}
use Rattle.chains.specs.declared.search.Step.{Step}
use Rattle.chains.specs.Search.{no_step, number, before_at, Falling, led_within, led}

module _ (steps : List Step) (falling : Falling steps) where
  -- any bound that is high enough serves
  pub led_enough : (m n : ℕ) (p : Option ℕ) → number p ≤ length steps → number p ≤ m → number p ≤ n → led_within steps m p ≡ led_within steps n p
  led_enough zero zero p w h k = refl
  led_enough zero (suc n) None w h k = refl
  led_enough zero (suc n) (Some j) w h k = absurd (omega arith)
  led_enough (suc m) zero None w h k = refl
  led_enough (suc m) zero (Some j) w h k = absurd (omega arith)
  led_enough (suc m) (suc n) None w h k = refl
  led_enough (suc m) (suc n) (Some j) w h k =
      let low = falling j w in
      ap (λ (ns : List ℕ). suc j ∷ ns) (led_enough m n (before_at steps j) (omega arith) (omega arith) (omega arith))

  -- the last number, and then those that its step leads through
  pub led_more : (j : ℕ) → j < length steps → led steps (Some j) ≡ suc j ∷ led steps (before_at steps j)
  led_more j h = go (length steps) refl
    where
      go : (n : ℕ) → n ≡ length steps → led_within steps n (Some j) ≡ suc j ∷ led_within steps n (before_at steps j)
      go zero e = absurd (omega arith)
      go (suc m) e =
          let low = falling j h in
          ap (λ (ns : List ℕ). suc j ∷ ns) (led_enough m (suc m) (before_at steps j) (omega arith) (omega arith) (omega arith))

  -- steps behind change nothing
  pub led_kept : (more : List Step) (n : ℕ) (p : Option ℕ) → number p ≤ length steps → led_within (steps ++ more) n p ≡ led_within steps n p
  led_kept more zero p w = refl
  led_kept more (suc n) None w = refl
  led_kept more (suc n) (Some j) w =
      let low = falling j w in
      let same : before_at (steps ++ more) j ≡ before_at steps j = ap (λ (s : Step). s.before) (get_or_append_left steps more no_step j w) in
      ap (λ (q : Option ℕ). suc j ∷ led_within (steps ++ more) n q) same
      ∙ ap (λ (ns : List ℕ). suc j ∷ ns) (led_kept more n (before_at steps j) (omega arith))

-- a chain has no more holes than there are steps
pub led_short : (steps : List Step) (p : Option ℕ) → length (led steps p) ≤ length steps
led_short steps p = go (length steps) p
  where
    go : (n : ℕ) (q : Option ℕ) → length (led_within steps n q) ≤ n
    go zero q = omega arith
    go (suc n) None = omega arith
    go (suc n) (Some j) = omega (arith, go n (before_at steps j))
