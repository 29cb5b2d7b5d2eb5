-- The words of a good line: each may stand on a line, and says one thing only.
use Rattle.std.proofs.Common.{◌≡◌, ℕ, ◌≤◌, Bool, true, false, cond, not, eqb, leb, List, [], ◌∷◌, length, get_or, ℤ, pos, negsuc, Some, None, Option, sym, refl, ap, ◌∙◌, arith}
use lib.Signed.{le_z}
use Rattle.std.proofs.lemmas.Bool.{and_parts, not-false}
use Rattle.std.proofs.lemmas.Bool.Decides.{nat_tests}
use Rattle.parts.specs.declared.bar.Bar.{Bar}
use Rattle.parts.specs.declared.bolt.Bolt.{Bolt}
use Rattle.parts.specs.declared.bolt.Size.{Size}
use Rattle.parts.specs.declared.bolt.Size.TheVariants.{M16, M20, M22, M24}
use Rattle.parts.specs.declared.fault.Fault.{Fault}
use Rattle.parts.specs.declared.hole.Hole.{Hole}
use Rattle.parts.specs.declared.load.LoadKind.{LoadKind}
use Rattle.parts.specs.declared.load.LoadKind.TheVariants.{Dead, Live, RoofLive, Snow, Rain, Wind, Earthquake}
use Rattle.parts.specs.declared.steel.Steel.{Steel}
use Rattle.parts.specs.declared.steel.Steel.TheVariants.{A36, A529, A572Grade42, A572Grade50, A572Grade60, A572Grade65}
use Rattle.parts.specs.Holes.{drilled, placed}
use Rattle.parts.specs.LoadKinds.{letter_of}
use Rattle.parts.specs.Ranges.{bar_ranges, bolt_ranges}
use Rattle.parts.specs.Sizes.{size_name, diameter_of}
use Rattle.parts.specs.Steels.{steel_name}
use Rattle.sheet.specs.Calls.{put_fault_by}
use Rattle.sheet.specs.Law.{bearable}
use Rattle.text.specs.Figures.{Nine}
use Rattle.text.proofs.Clean.{Clean, clean_by}
use Rattle.reading.specs.Shapes.{Short}

-- ---- names

pub clean_steel : (s : Steel) → Clean (steel_name s)
clean_steel A36 = clean_by _ (omega arith) refl refl
clean_steel A529 = clean_by _ (omega arith) refl refl
clean_steel A572Grade42 = clean_by _ (omega arith) refl refl
clean_steel A572Grade50 = clean_by _ (omega arith) refl refl
clean_steel A572Grade60 = clean_by _ (omega arith) refl refl
clean_steel A572Grade65 = clean_by _ (omega arith) refl refl

steel_by : List ℕ → Steel
steel_by w =
    cond (eqb (length w) 3) A36 (cond (eqb (length w) 4) A529 (cond (eqb (get_or w 5 0) 52) A572Grade42
    (cond (eqb (get_or w 5 0) 53) A572Grade50 (cond (eqb (get_or w 6 0) 48) A572Grade60 A572Grade65))))

steel_back : (s : Steel) → steel_by (steel_name s) ≡ s
unfolding steel_by
steel_back A36 = refl
steel_back A529 = refl
steel_back A572Grade42 = refl
steel_back A572Grade50 = refl
steel_back A572Grade60 = refl
steel_back A572Grade65 = refl

pub steel_once : (s t : Steel) → steel_name s ≡ steel_name t → s ≡ t
steel_once s t e = sym (steel_back s) ∙ ap steel_by e ∙ steel_back t

pub clean_size : (s : Size) → Clean (size_name s)
clean_size M16 = clean_by _ (omega arith) refl refl
clean_size M20 = clean_by _ (omega arith) refl refl
clean_size M22 = clean_by _ (omega arith) refl refl
clean_size M24 = clean_by _ (omega arith) refl refl

size_by : List ℕ → Size
size_by w = cond (eqb (get_or w 2 0) 54) M16 (cond (eqb (get_or w 2 0) 48) M20 (cond (eqb (get_or w 2 0) 50) M22 M24))

size_back : (s : Size) → size_by (size_name s) ≡ s
unfolding size_by
size_back M16 = refl
size_back M20 = refl
size_back M22 = refl
size_back M24 = refl

pub size_once : (s t : Size) → size_name s ≡ size_name t → s ≡ t
size_once s t e = sym (size_back s) ∙ ap size_by e ∙ size_back t

pub clean_letter : (k : LoadKind) → Clean (letter_of k ∷ [])
clean_letter Dead = clean_by _ (omega arith) refl refl
clean_letter Live = clean_by _ (omega arith) refl refl
clean_letter RoofLive = clean_by _ (omega arith) refl refl
clean_letter Snow = clean_by _ (omega arith) refl refl
clean_letter Rain = clean_by _ (omega arith) refl refl
clean_letter Wind = clean_by _ (omega arith) refl refl
clean_letter Earthquake = clean_by _ (omega arith) refl refl

-- ---- numbers

pub short_bar : (b : Bar) → bar_ranges b ≡ true → Short b.width × Short b.thickness × Short b.edge
short_bar b e = (grind (arith, nat_tests), grind (arith, nat_tests), grind (arith, nat_tests))

pub short_bolt : (t : Bolt) → bolt_ranges t ≡ true → Short t.stress.0 × Short t.planes
short_bolt t e = (grind (arith, nat_tests), grind (arith, nat_tests))

pub nine_load : (z : ℤ) → bearable z ≡ true → Nine z
nine_load (pos n) e =
    let p = and_parts (le_z (negsuc 9999999) (pos n)) (le_z (pos n) (pos 10000000)) e in
    grind (arith, nat_tests)
nine_load (negsuc n) e =
    let p = and_parts (le_z (negsuc 9999999) (negsuc n)) (le_z (negsuc n) (pos 10000000)) e in
    grind (arith, nat_tests)

-- a line of a table that did not hold
passed_over : (v : Bool) (f : Fault) (o : Option Fault) → cond v (Some f) o ≡ None → (v ≡ false) × (o ≡ None)
passed_over true f o e = absurd (let z : ◌≡◌ {A = ℕ} 0 1 = cc in omega arith)
passed_over false f o e = (refl, e)

width_most : (s : Size) → diameter_of s ≤ 24
width_most M16 = omega arith
width_most M20 = omega arith
width_most M22 = omega arith
width_most M24 = omega arith

pub short_hole : (b : Bar) (t : Bolt) (hs : List Hole) (h : Hole) → bar_ranges b ≡ true → put_fault_by (Some b) (Some t) hs h ≡ None → Short h.x × Short h.y × Short h.diameter
unfolding put_fault_by
short_hole b t hs h r e =
    let full = passed_over (leb 32 (length hs)) _ _ e in
    let wide = passed_over (not (drilled t h)) _ _ full.1 in
    let out = passed_over (not (placed b h)) _ _ wide.1 in
    let d : drilled t h ≡ true = not-false (drilled t h) wide.0 in
    let p : placed b h ≡ true = not-false (placed b h) out.0 in
    let most = width_most t.size in
    (grind (arith, nat_tests), grind (arith, nat_tests), grind (arith, nat_tests))
