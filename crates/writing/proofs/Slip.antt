-- The numbers on a slip, up to its first 0.
use Rattle.std.proofs.Common.{◌≡◌, ◌==◌, ◌≤◌, ℕ, zero, suc, nat_lt, false, List, [], ◌∷◌, length, take, cond, unwrap_or, Some, None, refl, ap, one-add, arith}
use Rattle.std.specs.List.{position, position_or_len}
use Rattle.std.proofs.lemmas.List.Sums.{prefix_len-le-length}
use Rattle.std.proofs.lemmas.Bool.Decides.{nat_tests}
use Rattle.chains.specs.Slips.{told}

no_nought : (s : ℕ) → (suc s == 0) ≡ false
no_nought s = grind (arith, nat_tests)

before_nought : (ss : List ℕ) → take (position_or_len (λ n. n == 0) ss) ss ≡ told ss
before_nought [] = refl
before_nought (zero ∷ ss) = refl
before_nought (suc s ∷ ss) = rw (no_nought s, one-add) (ap (λ l. suc s ∷ l) (before_nought ss))

or_end : (i n : ℕ) → i ≤ n → unwrap_or (cond (nat_lt i n) (Some i) None) n ≡ i
or_end i n h = grind (arith, nat_tests)

pub told_before : (ss : List ℕ) (n : ℕ) {k : ℕ} → k ≡ unwrap_or (position (λ n. n == 0) ss) n → n ≡ length ss → take k ss ≡ told ss
told_before ss n here long = rw (here, long) (rw (or_end (position_or_len (λ n. n == 0) ss) (length ss) (prefix_len-le-length _ ss)) (before_nought ss))
