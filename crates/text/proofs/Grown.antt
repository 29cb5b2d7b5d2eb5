-- A text that grows at its end.
use Rattle.std.proofs.Common.{◌≡◌, ℕ, zero, suc, ◌+◌, ◌-◌, ◌<◌, ◌≤◌, min, Ok, Err, Result, List, [], ◌∷◌, ◌++◌, length, get_or, take, true≢false, sym, refl, ap, ◌∙◌, append_assoc, arith}
use Rattle.std.specs.List.{flat_map}
use Rattle.std.specs.Result.{IsOk, OnOk, OnErr}
use Rattle.std.proofs.lemmas.List.{take_all, take_at, length_push, take_more, flat_map_more}

-- cut twice at one place, before and after more is added
pub take_twice : (n : ℕ) (xs ys : List ℕ) → take n (take n xs ++ ys) ≡ take n (xs ++ ys)
take_twice zero xs ys = refl
take_twice (suc n) [] ys = refl
take_twice (suc n) (x ∷ xs) ys = ap (λ l. x ∷ l) (take_twice n xs ys)

pub grown : (n : ℕ) (was mid now a b : List ℕ) → mid ≡ take n (was ++ a) → now ≡ take n (mid ++ b) → now ≡ take n (was ++ (a ++ b))
grown n was mid now a b p q =
    q ∙ ap (λ l. take n (l ++ b)) p ∙ take_twice n (was ++ a) b ∙ ap (take n) (append_assoc was a b)

-- as much of ys as there is room for
capped : (n : ℕ) (ys : List ℕ) → take (min (length ys) n) ys ≡ take n ys
capped n [] = take_all (min 0 n) [] (omega arith) ∙ sym (take_all n [] (omega arith))
capped zero (y ∷ ys) = let none : min (suc (length ys)) zero ≡ zero = omega arith in ap (λ m. take m (y ∷ ys)) none
capped (suc n) (y ∷ ys) =
    let one_more : min (suc (length ys)) (suc n) ≡ suc (min (length ys) n) = omega arith in
    ap (λ m. take m (y ∷ ys)) one_more ∙ ap (λ l. y ∷ l) (capped n ys)

pub fitted : (n k : ℕ) (xs ys : List ℕ) → length xs ≤ n → k ≡ min (length ys) (n - length xs) → xs ++ take k ys ≡ take n (xs ++ ys)
fitted n k [] ys h e = let is : k ≡ min (length ys) n = omega arith in ap (λ m. take m ys) is ∙ capped n ys
fitted zero k (x ∷ xs) ys h e = absurd (omega arith)
fitted (suc n) k (x ∷ xs) ys h e = ap (λ l. x ∷ l) (fitted n k xs ys (omega arith) (omega arith))

-- one element more, where there is room
pub pushed : {E : Type 0} (r : Result (Unit {0}) E) (n : ℕ) (was now : List ℕ) (x : ℕ) → (IsOk r → length was < n) → OnOk r (now ≡ was ++ x ∷ []) → OnErr r (now ≡ was) → OnErr r (length was ≡ n) → now ≡ take n (was ++ x ∷ [])
pushed (Ok u) n was now x few ok err full =
    let room : length was < n = few refl in
    ok ∙ sym (take_all n (was ++ x ∷ []) (omega (arith, length_push was x)))
pushed (Err e) n was now x few ok err full = err ∙ sym (take_at was (x ∷ []) n full)

-- these elements more, where there is room
pub extended : {E : Type 0} (r : Result (Unit {0}) E) (was now xs : List ℕ) → IsOk r → OnOk r (now ≡ was ++ xs) → now ≡ was ++ xs
extended (Ok u) was now xs some ok = ok
extended (Err e) was now xs some ok = absurd (true≢false (sym some))

-- one element more of what is written one after another
pub joined_take : {X : Type 0} (f : X → List ℕ) (xs : List X) (i : ℕ) (d : X) → i < length xs → flat_map f (take (i + 1) xs) ≡ flat_map f (take i xs) ++ f (get_or xs i d)
joined_take f xs i d h = ap (flat_map f) (take_more xs i d h) ∙ sym (flat_map_more f [] (take i xs) (get_or xs i d))
