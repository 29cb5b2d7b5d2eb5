-- Loads within their range.
use Rattle.std.proofs.Common.{◌≡◌, ℕ, zero, suc, ◌<◌, true, List, [], ◌∷◌, length, get_or, set, ℤ, pos, negsuc, ◌≤ℤ◌, refl, arith}
use lib.Signed.{le_z}
use Rattle.std.proofs.lemmas.Int.{ints}
use Rattle.std.proofs.lemmas.Bool.{and_parts, and_from}
use Rattle.sheet.specs.Law.{bearable, all_bearable}

-- one load replaced by another within the range
pub bearable_set : (ns : List ℤ) (k : ℕ) (n : ℤ) → bearable n ≡ true → all_bearable ns ≡ true → all_bearable (set ns k n) ≡ true
bearable_set [] k n b all = refl
bearable_set (m ∷ ms) zero n b all = and_from _ _ b (and_parts (bearable m) (all_bearable ms) all).1
bearable_set (m ∷ ms) (suc k) n b all =
    let p = and_parts (bearable m) (all_bearable ms) all in
    and_from _ _ p.0 (bearable_set ms k n b p.1)

abbrev pub Bearable : ℤ → Type 0
Bearable n = (negsuc 9999999 ≤ℤ n) × (n ≤ℤ pos 10000000)

bearable_is : (n : ℤ) → bearable n ≡ true → Bearable n
bearable_is n e =
    let p = and_parts (le_z (negsuc 9999999) n) (le_z n (pos 10000000)) e in
    (grind (arith, ints), grind (arith, ints))

pub bearable_at : (ns : List ℤ) (k : ℕ) → k < length ns → all_bearable ns ≡ true → Bearable (get_or ns k (pos 0))
bearable_at [] k h all = absurd (omega arith)
bearable_at (m ∷ ms) zero h all = bearable_is m (and_parts (bearable m) (all_bearable ms) all).0
bearable_at (m ∷ ms) (suc k) h all = bearable_at ms k (omega arith) (and_parts (bearable m) (all_bearable ms) all).1
