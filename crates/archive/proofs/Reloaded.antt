-- The loads of a page, set line by line: each has a letter of its own, and each comes back.
use Rattle.std.proofs.Common.{◌≡◌, ℕ, zero, suc, ◌+◌, ◌<◌, ◌≤◌, true, cond, eqb, List, [], ◌∷◌, reverse, length, get_or, set, ℤ, pos, negsuc, ◌≤ℤ◌, sum_by, sym, refl, ap, ◌∙◌, subst, ⊎_elim, arith, length-set}
use mathlib.Core.List.{reverse_aux}
use lib.Signed.{le_z}
use Rattle.std.proofs.lemmas.List.{ext_get_or, get_or-set_same, get_or-set_other, length-map, length-reverse}
use Rattle.std.proofs.lemmas.Int.{ints}
use Rattle.std.proofs.lemmas.List.Sorted.{sum_by-IsPermutation, length_permutation}
use Rattle.std.proofs.lemmas.List.Sums.{sum_by-cons}
use Rattle.std.proofs.lemmas.Bool.{and_from, cases_eq, cond-true, cond-false, eq-eqb, ne_eqb}
use Rattle.parts.specs.declared.load.LoadKind.{LoadKind}
use Rattle.parts.specs.declared.load.LoadKind.TheVariants.{Dead, Live, RoofLive, Snow, Rain, Wind, Earthquake}
use Rattle.parts.specs.LoadKinds.{kind_number}
use Rattle.reading.specs.Beginnings.{borne, Fresh, LoadsGood}
use Rattle.sections.specs.Texts.{LoadOrder, all_kinds, load_at, loads_in}
use Rattle.sheet.specs.Details.{Details, Sound}
use Rattle.sheet.specs.Law.{bearable}
use Rattle.archive.proofs.Loading.{kind_few}

-- ---- how often a kind stands in a list

abbrev one_of : LoadKind → LoadKind → ℕ
one_of k j = cond (eqb (kind_number j) (kind_number k)) 1 0

abbrev times : LoadKind → List LoadKind → ℕ
times k ks = sum_by (one_of k) ks

one_same : (k j : LoadKind) → kind_number j ≡ kind_number k → one_of k j ≡ 1
one_same k j e = cond-true _ _ _ (eq-eqb _ _ e)

one_other : (k j : LoadKind) → (kind_number j ≡ kind_number k → ⊥) → one_of k j ≡ 0
one_other k j ne = cond-false _ _ _ (ne_eqb _ _ ne)

times_more : (k j : LoadKind) (ks : List LoadKind) → times k (j ∷ ks) ≡ one_of k j + times k ks
times_more k j ks = sum_by-cons (one_of k) j ks

times_turned : (k : LoadKind) (ks zs : List LoadKind) → times k (reverse_aux ks zs) ≡ times k ks + times k zs
times_turned k [] zs = omega arith
times_turned k (j ∷ ks) zs = omega (arith, times_turned k ks (j ∷ zs), times_more k j zs, times_more k j ks)

times_all : (k : LoadKind) → times k all_kinds ≡ 1
times_all Dead = refl
times_all Live = refl
times_all RoofLive = refl
times_all Snow = refl
times_all Rain = refl
times_all Wind = refl
times_all Earthquake = refl

once_turned : (order : List LoadKind) → LoadOrder order → (k : LoadKind) → times k (reverse order) ≡ 1
once_turned order o k =
    let same = sum_by-IsPermutation (one_of k) all_kinds order o.once in
    let none : times k [] ≡ 0 = refl in
    omega (arith, times_turned k order [], same, times_all k, none)

-- ---- the loads of a list of kinds

module _ (ns : List ℤ) where
  turned_loads : (ks zs : List LoadKind) → reverse_aux (loads_in ks ns) (loads_in zs ns) ≡ loads_in (reverse_aux ks zs) ns
  turned_loads [] zs = refl
  turned_loads (k ∷ ks) zs = turned_loads ks (k ∷ zs)

  length_loads : (ks : List LoadKind) → length (loads_in ks ns) ≡ length ks
  length_loads ks = length-map ks (load_at ns)

  fresh_in : (k : LoadKind) (ks : List LoadKind) → times k ks ≡ 0 → Fresh k (loads_in ks ns)
  fresh_in k [] e = tt
  fresh_in k (j ∷ ks) e =
      let more = times_more k j ks in
      (λ same. omega (arith, one_same k j (ap kind_number same), more, e), fresh_in k ks (omega arith))

  loads_good : (ks : List LoadKind) → length ks ≤ 7 → ((k : LoadKind) → times k ks ≤ 1) → ((k : LoadKind) → bearable (get_or ns (kind_number k) (pos 0)) ≡ true) → LoadsGood (loads_in ks ns)
  loads_good [] few once fit = tt
  loads_good (k ∷ ks) few once fit = (
    loads_good ks (omega arith) (λ j. omega (arith, times_more j k ks, once j)) fit,
    omega (arith, length_loads ks),
    fresh_in k ks (omega (arith, times_more k k ks, one_same k k refl, once k)),
    fit k,
  )

  seven_borne : (ks : List LoadKind) → length (borne (loads_in ks ns)) ≡ 7
  seven_borne [] = refl
  seven_borne (k ∷ ks) = length-set (borne (loads_in ks ns)) (kind_number k) _ ∙ seven_borne ks

  -- the value that a list of loads gives to one of its kinds
  borne_at : (k : LoadKind) (ks : List LoadKind) → 0 < times k ks → get_or (borne (loads_in ks ns)) (kind_number k) (pos 0) ≡ get_or ns (kind_number k) (pos 0)
  borne_at k [] some = let none : times k [] ≡ 0 = refl in absurd (omega arith)
  borne_at k (j ∷ ks) some =
      let old = borne (loads_in ks ns) in
      let more = times_more k j ks in
      ⊎_elim
      (λ same. subst (λ (i : ℕ). get_or (set old (kind_number j) (get_or ns (kind_number j) (pos 0))) i (pos 0) ≡ get_or ns i (pos 0)) same
      (get_or-set_same old (kind_number j) _ (pos 0) (omega (arith, seven_borne ks, kind_few j))))
      (λ ne. get_or-set_other old (kind_number j) (kind_number k) _ (pos 0) (λ e. ne (sym e)) ∙ borne_at k ks (omega (arith, one_other k j ne)))
      (cases_eq (kind_number j) (kind_number k))

  by_places : (xs : List ℤ) → ((k : LoadKind) → get_or xs (kind_number k) (pos 0) ≡ get_or ns (kind_number k) (pos 0)) → (i : ℕ) → i < 7 → get_or xs i (pos 0) ≡ get_or ns i (pos 0)
  by_places xs at zero lt = at Dead
  by_places xs at (suc zero) lt = at Live
  by_places xs at (suc (suc zero)) lt = at RoofLive
  by_places xs at (suc (suc (suc zero))) lt = at Snow
  by_places xs at (suc (suc (suc (suc zero)))) lt = at Rain
  by_places xs at (suc (suc (suc (suc (suc zero))))) lt = at Wind
  by_places xs at (suc (suc (suc (suc (suc (suc zero)))))) lt = at Earthquake
  by_places xs at (suc (suc (suc (suc (suc (suc (suc i))))))) lt = absurd (omega arith)

  borne_all : (ks : List LoadKind) → length ns ≡ 7 → ((k : LoadKind) → times k ks ≡ 1) → borne (loads_in ks ns) ≡ ns
  borne_all ks seven once =
      let long = seven_borne ks in
      ext_get_or (pos 0) (borne (loads_in ks ns)) ns (long ∙ sym seven)
      (λ i lt. by_places (borne (loads_in ks ns)) (λ k. borne_at k ks (omega (arith, once k))) i (omega arith))

-- ---- the loads of a joint

is_bearable : (n : ℤ) → negsuc 9999999 ≤ℤ n → n ≤ℤ pos 10000000 → bearable n ≡ true
is_bearable n p q = and_from (le_z (negsuc 9999999) n) (le_z n (pos 10000000)) (grind (arith, ints)) (grind (arith, ints))

module _ (d : Details) (sound : Sound d) (order : List LoadKind) (o : LoadOrder order) where
  many : length (reverse order) ≡ 7
  many = length-reverse order ∙ length_permutation all_kinds order o.once

  turned : reverse (loads_in order d.loads) ≡ loads_in (reverse order) d.loads
  turned = turned_loads d.loads order []

  pub seven_again : length (reverse (loads_in order d.loads)) ≡ 7
  seven_again = ap length turned ∙ length_loads d.loads (reverse order) ∙ many

  pub good_again : LoadsGood (reverse (loads_in order d.loads))
  good_again =
      subst LoadsGood (sym turned)
      (loads_good d.loads (reverse order) (omega (arith, many)) (λ k. omega (arith, once_turned order o k))
      (λ k. let b = sound.bearable (kind_number k) (kind_few k) in is_bearable _ b.0 b.1))

  pub borne_again : borne (reverse (loads_in order d.loads)) ≡ d.loads
  borne_again = ap borne turned ∙ borne_all d.loads (reverse order) sound.seven (once_turned order o)
