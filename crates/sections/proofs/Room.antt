-- How long the first four sections can be.
use Rattle.std.proofs.Common.{◌≡◌, ℕ, ◌+◌, ◌^◌, ◌<◌, ◌≤◌, List, [], ◌∷◌, ◌++◌, length, get_or, ℤ, pos, negsuc, ◌≤ℤ◌, codes, decimal, arith, length-append}
use lib.Signed.{mag}
use Rattle.std.specs.List.{flat_map, AllByRecursion}
use Rattle.std.specs.Fmt.{signed_decimal}
use Rattle.std.proofs.ByRecursion.{All-from_get_or, All-map}
use Rattle.std.proofs.lemmas.List.{length-map}
use Rattle.std.proofs.lemmas.Int.{ints}
use Rattle.std.proofs.lemmas.List.Sorted.{length_permutation}
use Rattle.parts.specs.declared.bolt.Size.{Size}
use Rattle.parts.specs.declared.bolt.Size.TheVariants.{M16, M20, M22, M24}
use Rattle.parts.specs.declared.hole.Hole.{Hole}
use Rattle.parts.specs.declared.load.LoadKind.{LoadKind}
use Rattle.parts.specs.declared.load.LoadKind.TheVariants.{Dead, Live, RoofLive, Snow, Rain, Wind, Earthquake}
use Rattle.parts.specs.declared.steel.Steel.{Steel}
use Rattle.parts.specs.declared.steel.Steel.TheVariants.{A36, A529, A572Grade42, A572Grade50, A572Grade60, A572Grade65}
use Rattle.parts.specs.LoadKinds.{letter_of, kind_number}
use Rattle.parts.specs.Sizes.{size_name, diameter_of}
use Rattle.parts.specs.Steels.{steel_name}
use Rattle.sheet.specs.Details.{Details, Sound, no_hole}
use Rattle.text.specs.Words.{line, header}
use Rattle.text.proofs.Lengths.{decimal_long, signed_long, line_one, line_more, header_long, joined_long}
use Rattle.sections.specs.Texts.{LoadOrder, all_kinds, load_at, loads_in, bar_text, bolt_text, hole_line, holes_text, load_line, loads_text, sections_text}

steel_short : (s : Steel) → length (steel_name s) ≤ 7
steel_short A36 = omega arith
steel_short A529 = omega arith
steel_short A572Grade42 = omega arith
steel_short A572Grade50 = omega arith
steel_short A572Grade60 = omega arith
steel_short A572Grade65 = omega arith

size_short : (s : Size) → length (size_name s) ≤ 3
size_short M16 = omega arith
size_short M20 = omega arith
size_short M22 = omega arith
size_short M24 = omega arith

pub kind_few : (k : LoadKind) → kind_number k < 7
kind_few Dead = omega arith
kind_few Live = omega arith
kind_few RoofLive = omega arith
kind_few Snow = omega arith
kind_few Rain = omega arith
kind_few Wind = omega arith
kind_few Earthquake = omega arith

thick : (s : Size) → diameter_of s ≤ 24
thick M16 = omega arith
thick M20 = omega arith
thick M22 = omega arith
thick M24 = omega arith

-- lines of two, three and four pieces
two_long : (a b : List ℕ) → length (line (a ∷ b ∷ [])) ≡ length a + length b + 2
two_long a b = omega (arith, line_more a b [], line_one b)

three_long : (a b c : List ℕ) → length (line (a ∷ b ∷ c ∷ [])) ≡ length a + length b + length c + 3
three_long a b c = omega (arith, line_more a b (c ∷ []), two_long b c)

four_long : (a b c d : List ℕ) → length (line (a ∷ b ∷ c ∷ d ∷ [])) ≡ length a + length b + length c + length d + 4
four_long a b c d = omega (arith, line_more a b (c ∷ d ∷ []), three_long b c d)

hole_room : (h : Hole) → h.x < 2 ^ 64 → h.y < 2 ^ 64 → h.diameter < 2 ^ 64 → length (hole_line h) ≤ 63
hole_room h p q r =
    omega (arith, three_long (decimal h.x) (decimal h.y) (decimal h.diameter), decimal_long h.x p, decimal_long h.y q, decimal_long h.diameter r)

load_room : (k : LoadKind) (z : ℤ) → mag z < 2 ^ 63 → length (load_line (k, z)) ≤ 23
load_room k z h = omega (arith, two_long (letter_of k ∷ []) (signed_decimal z), signed_long z h)

light : (z : ℤ) → negsuc 9999999 ≤ℤ z → z ≤ℤ pos 10000000 → mag z < 2 ^ 63
light (pos n) p q = omega (arith, ints)
light (negsuc n) p q = omega (arith, ints)

module _ (d : Details) (sound : Sound d) where
  bar_room : length (bar_text d.bar) ≤ 96
  bar_room =
      let b = d.bar in
      let w = sound.width in
      let t = sound.thickness in
      let e = sound.edge in
      omega (
        arith,
        length-append (header 1 (codes "bar")) (line (decimal b.width ∷ decimal b.thickness ∷ steel_name b.steel ∷ decimal b.edge ∷ [])),
        header_long 1 (codes "bar") (omega arith),
        four_long (decimal b.width) (decimal b.thickness) (steel_name b.steel) (decimal b.edge),
        decimal_long b.width (omega arith),
        decimal_long b.thickness (omega arith),
        steel_short b.steel,
        decimal_long b.edge (omega arith),
      )

  bolt_room : length (bolt_text d.bolt) ≤ 72
  bolt_room =
      let t = d.bolt in
      let s = sound.stress in
      let p = sound.planes in
      omega (
        arith,
        length-append (header 1 (codes "bolt")) (line (size_name t.size ∷ decimal t.stress.0 ∷ decimal t.planes ∷ [])),
        header_long 1 (codes "bolt") (omega arith),
        three_long (size_name t.size) (decimal t.stress.0) (decimal t.planes),
        size_short t.size,
        decimal_long t.stress.0 (omega arith),
        decimal_long t.planes (omega arith),
      )

  holes_room : length (holes_text d.holes) ≤ 2043
  holes_room =
      let few = sound.few in
      let wide = sound.width in
      let each : AllByRecursion (λ h. length (hole_line h) ≤ 63) d.holes =
      All-from_get_or (λ h. length (hole_line h) ≤ 63) d.holes no_hole
      (λ k lt.
      let p = sound.placed k lt in
      let r = sound.drilled k lt in
      hole_room (get_or d.holes k no_hole) (omega arith) (omega arith) (omega (arith, thick d.bolt.size))) in
      omega (
        arith,
        length-append (header (length d.holes) (codes "holes")) (flat_map hole_line d.holes),
        header_long (length d.holes) (codes "holes") (omega arith),
        joined_long hole_line 63 d.holes each,
      )

  module _ (order : List LoadKind) (ordered : LoadOrder order) where
    loads_room : length (loads_text (loads_in order d.loads)) ≤ 188
    loads_room =
        let each : AllByRecursion (λ p. length (load_line p) ≤ 23) (loads_in order d.loads) =
        All-map (λ p. length (load_line p) ≤ 23) (load_at d.loads) order
        (All-from_get_or (λ k. length (load_line (load_at d.loads k)) ≤ 23) order Dead
        (λ i lt.
        let k = get_or order i Dead in
        let b = sound.bearable (kind_number k) (kind_few k) in
        load_room k _ (light _ b.0 b.1))) in
        omega (
          arith,
          length-append (header 7 (codes "loads")) (flat_map load_line (loads_in order d.loads)),
          header_long 7 (codes "loads") (omega arith),
          joined_long load_line 23 (loads_in order d.loads) each,
          length-map order (load_at d.loads),
          length_permutation all_kinds order ordered.once,
        )

    pub sections_room : length (sections_text d.bar d.bolt d.holes (loads_in order d.loads)) ≤ 2400
    sections_room =
        let hs = holes_text d.holes in
        let ls = loads_text (loads_in order d.loads) in
        omega (
          arith,
          length-append (bar_text d.bar) (bolt_text d.bolt ++ (hs ++ ls)),
          length-append (bolt_text d.bolt) (hs ++ ls),
          length-append hs ls,
          bar_room,
          bolt_room,
          holes_room,
          loads_room,
        )
