-- The chain that steps lead through, and how it comes onto a slip.
use Rattle.std.proofs.Common.{◌≡◌, ℕ, zero, suc, ◌<◌, ◌≤◌, List, [], ◌∷◌, ◌++◌, reverse, length, drop, set, sym, refl, ap, ◌∙◌, subst, add-one, arith}
use mathlib.Core.List.{reverse_aux, reverse_aux-eq}
use Rattle.std.specs.List.{AllByRecursion}
use Rattle.std.proofs.lemmas.List.{drop-set, length-reverse, nil_from_length}
use Rattle.parts.specs.declared.hole.Hole.{Hole}
use Rattle.chains.specs.Chains.{Chain}
use Rattle.chains.specs.Slips.{filed, told}
use Rattle.chains.proofs.Basics.{numbers}

-- how far the writing of all numbers, the last first, over the start of a slip is, where `rest` is still to come
abbrev pub Written : List ℕ → List ℕ → List ℕ → List ℕ → Type 0
Written all start rest slip = reverse_aux rest (drop (length rest) slip) ≡ reverse_aux all (drop (length all) start)

pub written_more : (all start rest more slip : List ℕ) (n : ℕ) → rest ≡ n ∷ more → length more < length slip → Written all start rest slip → Written all start more (set slip (length more) n)
written_more all start rest more slip n e h w =
    ap (reverse_aux more) (drop-set slip (length more) n h ∙ ap (λ (k : ℕ). n ∷ drop k slip) (add-one (length more)))
    ∙ subst (λ (ns : List ℕ). Written all start ns slip) e w

filed_is : (ns slip : List ℕ) → length ns ≤ length slip → filed ns slip ≡ set (ns ++ drop (length ns) slip) (length ns) 0
filed_is [] [] h = refl
filed_is [] (s ∷ slip) h = refl
filed_is (n ∷ ns) [] h = absurd (omega arith)
filed_is (n ∷ ns) (s ∷ slip) h = ap (λ (l : List ℕ). n ∷ l) (filed_is ns slip (omega arith))

-- all is written, but for the 0
pub filed_all : (all start rest slip : List ℕ) → length rest ≡ 0 → length all ≤ length start → Written all start rest slip → set slip (length all) 0 ≡ filed (reverse all) start
filed_all all start rest slip none fits w =
    let whole : slip ≡ reverse all ++ drop (length all) start =
    subst (λ (ns : List ℕ). Written all start ns slip) (nil_from_length rest none) w ∙ reverse_aux-eq all _ in
    let long = length-reverse all in
    sym (filed_is (reverse all) start (omega (arith, long)) ∙ ap (λ (k : ℕ). set (reverse all ++ drop k start) k 0) long ∙ ap (λ (s : List ℕ). set s (length all) 0) (sym whole))

-- ---- what a slip tells
told_filed : (most : ℕ) (ns slip : List ℕ) → AllByRecursion (λ n. (1 ≤ n) × (n ≤ most)) ns → length ns ≤ length slip → told (filed ns slip) ≡ ns
told_filed most [] [] a h = refl
told_filed most [] (s ∷ slip) a h = refl
told_filed most (n ∷ ns) [] a h = absurd (omega arith)
told_filed most (zero ∷ ns) (s ∷ slip) a h = absurd (omega (arith, a.0))
told_filed most (suc n ∷ ns) (s ∷ slip) a h = ap (λ (l : List ℕ). suc n ∷ l) (told_filed most ns slip a.1 (omega arith))

all_turned : (P : ℕ → Type 0) (ns ms : List ℕ) → AllByRecursion P ns → AllByRecursion P ms → AllByRecursion P (reverse_aux ns ms)
all_turned P [] ms a b = b
all_turned P (n ∷ ns) ms a b = all_turned P ns (n ∷ ms) a.1 (a.0, b)

-- the numbers of a chain, first hole first, are numbers of holes too
pub turned_numbers : (hs : List Hole) (ns : List ℕ) → Chain hs ns → AllByRecursion (λ n. (1 ≤ n) × (n ≤ length hs)) (reverse ns)
turned_numbers hs ns ch = all_turned (λ n. (1 ≤ n) × (n ≤ length hs)) ns [] (numbers hs ns ch) tt

pub slip_reads : (hs : List Hole) (ns old new : List ℕ) → Chain hs ns → length ns ≤ length old → new ≡ filed (reverse ns) old → told new ≡ reverse ns
slip_reads hs ns old new ch fits e =
    ap told e ∙ told_filed (length hs) (reverse ns) old (turned_numbers hs ns ch) (omega (arith, length-reverse ns))
