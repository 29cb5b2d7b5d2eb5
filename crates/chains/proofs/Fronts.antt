-- One turn of a loop over what is left of a list.
use Rattle.std.proofs.Common.{◌≡◌, ℕ, ◌+◌, ◌<◌, List, ◌∷◌, length, get_or, drop, sym, ap, ◌∙◌, arith, length-drop}
use Rattle.std.proofs.lemmas.List.{drop_more}

-- where what is left after k items begins with x, that is item k
pub record Front {A : Type 0} (xs : List A) (k : ℕ) (x : A) (more : List A) : Type 0 where
  pub within : k < length xs
  pub is : (d : A) → x ≡ get_or xs k d
  pub left : more ≡ drop (k + 1) xs

pub front : {A : Type 0} (xs : List A) (k : ℕ) (x : A) (left more : List A) → left ≡ drop k xs → left ≡ x ∷ more → Front xs k x more
front xs k x left more e f =
    let within : k < length xs = omega (arith, ap length (sym f ∙ e), length-drop k xs) in
    record {
      within = within;
      is = λ d. let m = drop_more xs k d within in cc;
      left = let m = drop_more xs k x within in cc;
    }
