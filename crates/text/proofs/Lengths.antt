-- How long what is written can be.
use Rattle.std.proofs.Common.{◌≡◌, ℕ, ◌+◌, ◌*◌, ◌^◌, ◌<◌, ◌≤◌, List, [], ◌∷◌, ◌++◌, length, ℤ, decimal, ap, arith, length-append}
use lib.Signed.{mag}
use Rattle.std.specs.List.{flat_map, AllByRecursion}
use Rattle.std.specs.Fmt.{signed_decimal}
use Rattle.std.proofs.lemmas.Fmt.{length-decimal-le, length_signed_le}
use Rattle.text.specs.Words.{line, header}
use Rattle.text.proofs.Spelled.{one_spelled, more_spelled}

-- a number of 64 bits, and one under 100
pub decimal_long : (n : ℕ) → n < 2 ^ 64 → length (decimal n) ≤ 20
decimal_long n h = length-decimal-le 20 n (omega arith) (omega arith) h

pub two_figures : (n : ℕ) → n < 100 → length (decimal n) ≤ 2
two_figures n h = length-decimal-le 2 n (omega arith) h (omega arith)

pub signed_long : (z : ℤ) → mag z < 2 ^ 63 → length (signed_decimal z) ≤ 20
signed_long z h = length_signed_le 19 z (omega arith) h

-- a line of one piece, and of one piece more
pub line_one : (w : List ℕ) → length (line (w ∷ [])) ≡ length w + 1
line_one w = omega (arith, ap length (one_spelled w), length-append w (10 ∷ []))

pub line_more : (w v : List ℕ) (vs : List (List ℕ)) → length (line (w ∷ v ∷ vs)) ≡ length w + 1 + length (line (v ∷ vs))
line_more w v vs = omega (arith, ap length (more_spelled w v vs), length-append w ((32 ∷ []) ++ line (v ∷ vs)))

pub header_long : (n : ℕ) (name : List ℕ) → n < 100 → length (header n name) ≤ 4 + length name
unfolding header
header_long n name h = omega (arith, two_figures n h, line_more (decimal n) name [], line_one name)

-- lines of at most m bytes each
pub joined_long : {X : Type 0} (f : X → List ℕ) (m : ℕ) (xs : List X) → AllByRecursion (λ x. length (f x) ≤ m) xs → length (flat_map f xs) ≤ m * length xs
joined_long f m [] h = omega arith
joined_long f m (x ∷ xs) h = omega (arith, length-append (f x) (flat_map f xs), joined_long f m xs h.1, h.0)
