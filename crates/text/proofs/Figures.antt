-- What a text of at most nine figures looks like.
use Rattle.std.proofs.Common.{◌≡◌, ℕ, ◌+◌, ◌*◌, ◌<◌, ◌≤◌, List, Option, None, Some, MatchOption, length, get_or, take, ℤ, pos, negsuc, decimal, sym, ap, subst, ⊎_elim, arith, length-take}
use lib.Signed.{mag}
use Rattle.std.specs.Str.Parse.{digits_value, AllDigits}
use Rattle.std.specs.Char.{digit_value}
use Rattle.std.specs.Fmt.{signed_decimal}
use Rattle.std.proofs.str.Laws.{order}
use Rattle.std.proofs.lemmas.Fmt.{decimal_nonempty, length-decimal-le, first_decimal, decimal_digit, digits_decimal, digits_value-decimal, decimal-digits_value, decimal_injective, signed_decimal_injective}
use Rattle.std.proofs.lemmas.Int.Digits.{digits_value_more, digits_more}
use Rattle.std.proofs.lemmas.Str.Parse.{IsNumeralModel, numerals_by_value, tells_digits, digits_value_short}
use Rattle.text.specs.Figures.{Nine, Writes, Tells}

pub own : IsNumeralModel (AllDigits 10) (digits_value 10)
own = numerals_by_value (AllDigits 10) tells_digits

pub record Figures (t : List ℕ) (n : ℕ) : Type 0 where
  pub some : 0 < length t
  pub few : length t ≤ 9
  pub lead : get_or t 0 0 ≡ 48 → length t ≡ 1
  pub all : AllDigits 10 t
  pub is : digits_value 10 t ≡ n

lead_decimal : (n : ℕ) → n < 1000000000 → get_or (decimal n) 0 0 ≡ 48 → length (decimal n) ≡ 1
lead_decimal n h e =
    ⊎_elim (λ p. absurd (omega (arith, first_decimal n p (omega arith)))) (λ p. ap length (decimal_digit n (omega arith))) (order 0 n)

pub figures : (n : ℕ) (t : List ℕ) → Writes t n → Figures t n
figures n t w = subst (λ l. Figures l n) (sym w.1) (record {
  some = decimal_nonempty n (omega arith);
  few = length-decimal-le 9 n (omega arith) w.0 (omega arith);
  lead = lead_decimal n w.0;
  all = digits_decimal own n (omega arith);
  is = digits_value-decimal own n (omega arith);
})

-- figures with no leading zero write their value
written : (t : List ℕ) → AllDigits 10 t → 0 < length t → length t ≤ 9 → (get_or t 0 0 ≡ 48 → length t ≡ 1) → Writes t (digits_value 10 t)
written t all some few lead =
    let small : digits_value 10 t < 1000000000 = digits_value_short own t 9 all few in
    (small, sym (decimal-digits_value own t all some lead (omega arith)))

-- the value of the digits, or none where there are others, is the number that the text writes
pub told : (t : List ℕ) (r : Option ℕ) → MatchOption r (AllDigits 10 t → ⊥) (λ n. AllDigits 10 t × (n ≡ digits_value 10 t)) → 0 < length t → length t ≤ 9 → (get_or t 0 0 ≡ 48 → length t ≡ 1) → Tells t r
told t None h some few lead = λ n w. h (figures n t w).all
told t (Some n) h some few lead = subst (Writes t) (sym h.1) (written t h.0 some few lead)

-- before the last of nine figures there is room for one more
pub room : (t : List ℕ) (i : ℕ) → AllDigits 10 (take i t) → i < length t → length t ≤ 9 → digits_value 10 (take i t) < 100000000
room t i d h few = digits_value_short own (take i t) 8 d (simp length-take (omega arith))

pub figure_more : (t : List ℕ) (i d : ℕ) → AllDigits 10 (take i t) → i < length t → digit_value (get_or t i 0) < 10 → d ≡ digit_value (get_or t i 0) → AllDigits 10 (take (i + 1) t) × (digits_value 10 (take i t) * 10 + d ≡ digits_value 10 (take (i + 1) t))
figure_more t i d all h digit e = (digits_more 10 t i h all digit, omega (arith, digits_value_more 10 t i h))

-- a text writes one number only
pub number_once : (m n : ℕ) → m < 1000000000 → n < 1000000000 → decimal m ≡ decimal n → m ≡ n
number_once m n p q e = decimal_injective m n (omega arith) (omega arith) e

small : (z : ℤ) → Nine z → mag z < 1000000000
small (pos n) h = h
small (negsuc n) h = omega arith

pub signed_once : (y z : ℤ) → Nine y → Nine z → signed_decimal y ≡ signed_decimal z → y ≡ z
signed_once y z p q e = signed_decimal_injective y z (omega (arith, small y p)) (omega (arith, small z q)) e
