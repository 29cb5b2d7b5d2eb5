-- Words that a line may hold, and the line that they are written as.
use Rattle.std.proofs.Common.{◌≡◌, ℕ, zero, suc, ◌<◌, Bool, true, not, ◌&&◌, eqb, List, [], ◌∷◌, ◌++◌, length, ℤ, pos, negsuc, decimal, ◌∙◌, append_assoc, arith}
use Rattle.std.specs.Fmt.{signed_decimal}
use Rattle.std.proofs.lemmas.Fmt.{decimal_nonempty, digits_decimal}
use Rattle.std.proofs.lemmas.Str.Parse.{not_in_digits}
use Rattle.std.proofs.lemmas.Bool.{and_parts, not-true, eqb-false}
use Rattle.text.specs.Figures.{Nine}
use Rattle.text.specs.Words.{Lacks, Word, Words, spaced, Begins, line}
use Rattle.text.proofs.Figures.{own}

-- not empty, with no space and no end of a line in it
pub record Clean (w : List ℕ) : Type 0 where
  pub word : Word w
  pub flat : Lacks 10 w

abbrev pub Cleans : List (List ℕ) → Type 0
Cleans [] = Unit {0}
Cleans (w ∷ ws) = Clean w × Cleans ws

lacks_nil : (c : ℕ) → Lacks c []
lacks_nil c k h e = omega arith

lacks_cons : (c x : ℕ) (xs : List ℕ) → (x ≡ c → ⊥) → Lacks c xs → Lacks c (x ∷ xs)
lacks_cons c x xs n h zero l e = n e
lacks_cons c x xs n h (suc k) l e = h k (omega arith) e

lacks_append : (c : ℕ) (xs ys : List ℕ) → Lacks c xs → Lacks c ys → Lacks c (xs ++ ys)
lacks_append c [] ys p q = q
lacks_append c (x ∷ xs) ys p q = lacks_cons c x (xs ++ ys) (p 0 (omega arith)) (lacks_append c xs ys (λ k h e. p (suc k) (omega arith) e) q)

-- a test, for words that are written out
abbrev pub absent : ℕ → List ℕ → Bool
absent c [] = true
absent c (x ∷ xs) = not (eqb x c) && absent c xs

lacks_by : (c : ℕ) (xs : List ℕ) → absent c xs ≡ true → Lacks c xs
lacks_by c [] e = lacks_nil c
lacks_by c (x ∷ xs) e =
    let s = and_parts (not (eqb x c)) (absent c xs) e in
    lacks_cons c x xs (eqb-false x c (not-true (eqb x c) s.0)) (lacks_by c xs s.1)

pub clean_by : (w : List ℕ) → 0 < length w → absent 32 w ≡ true → absent 10 w ≡ true → Clean w
clean_by w s p f = record { word = record { some = s; plain = lacks_by 32 w p }; flat = lacks_by 10 w f }

pub clean_decimal : (n : ℕ) → n < 1000000000 → Clean (decimal n)
clean_decimal n h =
    let d = digits_decimal own n (omega arith) in
    record {
      word = record { some = decimal_nonempty n (omega arith); plain = not_in_digits own (decimal n) 32 d (λ p. omega arith) };
      flat = not_in_digits own (decimal n) 10 d (λ p. omega arith);
    }

pub clean_signed : (z : ℤ) → Nine z → Clean (signed_decimal z)
clean_signed (pos n) h = clean_decimal n h
clean_signed (negsuc n) h =
    let c = clean_decimal (suc n) h in
    record {
      word = record { some = omega arith; plain = lacks_cons 32 45 _ (λ e. omega arith) c.word.plain };
      flat = lacks_cons 10 45 _ (λ e. omega arith) c.flat;
    }

words : (ws : List (List ℕ)) → Cleans ws → Words ws
words [] h = tt
words (w ∷ ws) h = (h.0.word, words ws h.1)

flat_spaced : (ws : List (List ℕ)) → Cleans ws → Lacks 10 (spaced ws)
flat_spaced [] h = lacks_nil 10
flat_spaced (w ∷ []) h = h.0.flat
flat_spaced (w ∷ v ∷ ws) h = lacks_append 10 w (32 ∷ spaced (v ∷ ws)) h.0.flat (lacks_cons 10 32 _ (λ e. omega arith) (flat_spaced (v ∷ ws) h.1))

-- what is written as a line begins with that line
pub written_line : (text : List ℕ) (ws : List (List ℕ)) (rest : List ℕ) → Cleans ws → text ≡ line ws ++ rest → Begins text ws rest
unfolding line
written_line text ws rest h e = record {
  cut = record { is = e ∙ append_assoc (spaced ws) (10 ∷ []) rest; first = flat_spaced ws h };
  words = words ws h;
}
