-- Each load has its own letter and number, and a page marks the letters that stood.
use Rattle.std.proofs.Common.{◌≡◌, ℕ, Bool, true, false, ◌⊎◌, List, [], ◌∷◌, get_or, set, ℤ, Some, codes, sym, refl, ap, ◌∙◌, subst, inl, inr, ⊎_elim, arith, length-set}
use Rattle.std.proofs.lemmas.List.{get_or-set_same, get_or-set_other}
use Rattle.std.proofs.lemmas.Bool.{both_ways, cases_eq}
use Rattle.parts.specs.declared.load.LoadKind.{LoadKind}
use Rattle.parts.specs.declared.load.LoadKind.TheVariants.{Dead, Live, RoofLive, Snow, Rain, Wind, Earthquake}
use Rattle.parts.specs.LoadKinds.{letter_of, kind_number, kind_of}
use Rattle.sections.specs.Texts.{Load}
use Rattle.sections.proofs.Room.{kind_few}
use Rattle.reading.specs.LineFaults.{Names}
use Rattle.reading.specs.Stages.{Marks}

-- the load of a letter is that load
pub kind_again : (k : LoadKind) → kind_of (letter_of k) ≡ Some k
kind_again Dead = refl
kind_again Live = refl
kind_again RoofLive = refl
kind_again Snow = refl
kind_again Rain = refl
kind_again Wind = refl
kind_again Earthquake = refl

pub letter_once : (j k : LoadKind) → letter_of j ≡ letter_of k → j ≡ k
letter_once j k e =
    let p = kind_again j in
    let q = kind_again k in
    let s : kind_of (letter_of j) ≡ kind_of (letter_of k) = ap kind_of e in
    cc

pub names_once : {name : List ℕ} (j k : LoadKind) → Names name j → Names name k → j ≡ k
names_once {name} j k p q = letter_once j k (cc)

in_order : (k : LoadKind) → get_or (codes "DLASRWE") (kind_number k) 0 ≡ letter_of k
in_order Dead = refl
in_order Live = refl
in_order RoofLive = refl
in_order Snow = refl
in_order Rain = refl
in_order Wind = refl
in_order Earthquake = refl

kind_once : (j k : LoadKind) → kind_number j ≡ kind_number k → j ≡ k
kind_once j k e = letter_once j k (sym (in_order j) ∙ ap (λ n. get_or (codes "DLASRWE") n 0) e ∙ in_order k)

same_or_not : (j k : LoadKind) → (j ≡ k) ⊎ (kind_number j ≡ kind_number k → ⊥)
same_or_not j k = ⊎_elim (λ e. inl (kind_once j k e)) (λ n. inr n) (cases_eq (kind_number j) (kind_number k))

abbrev unmarked : List Bool
unmarked = false ∷ false ∷ false ∷ false ∷ false ∷ false ∷ false ∷ []

off : (k : LoadKind) → get_or unmarked (kind_number k) false ≡ false
off Dead = refl
off Live = refl
off RoofLive = refl
off Snow = refl
off Rain = refl
off Wind = refl
off Earthquake = refl

pub marks_none : Marks unmarked []
marks_none = record { seven = refl; stood = λ k t f. both_ways _ (off k) t; fresh = λ k t. tt }

pub marks_more : (seen : List Bool) (ps : List Load) (k : LoadKind) (z : ℤ) → Marks seen ps → Marks (set seen (kind_number k) true) ((k, z) ∷ ps)
marks_more seen ps k z m = record {
  seven = length-set seen (kind_number k) true ∙ m.seven;
  stood = λ j t f.
      ⊎_elim (λ (e : j ≡ k). f.0 (sym e))
      (λ (n : kind_number j ≡ kind_number k → ⊥). m.stood j (sym (get_or-set_other seen (kind_number k) (kind_number j) true false n) ∙ t) f.1)
      (same_or_not j k);
  fresh = λ j t.
      ⊎_elim
      (λ (e : j ≡ k).
      let here = get_or-set_same seen (kind_number k) true false (omega (arith, m.seven, kind_few k)) in
      absurd (both_ways _ (subst (λ (i : LoadKind). get_or (set seen (kind_number k) true) (kind_number i) false ≡ false) e t) here))
      (λ (n : kind_number j ≡ kind_number k → ⊥). ((λ e. n (ap kind_number (sym e))), m.fresh j (sym (get_or-set_other seen (kind_number k) (kind_number j) true false n) ∙ t)))
      (same_or_not j k);
}
