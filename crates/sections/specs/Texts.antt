-- What the first four sections of a page say.
use Rattle.std.specs.Prelude.{ℕ, List, [], ◌∷◌, ◌++◌, map, length, ℤ, pos, codes, decimal, slice_index_or}
use Rattle.std.specs.List.{flat_map}
use Rattle.std.specs.Fmt.{signed_decimal}
use Rattle.std.specs.List.Sorted.{IsPermutation}
use Rattle.parts.specs.declared.bar.Bar.{Bar}
use Rattle.parts.specs.declared.bolt.Bolt.{Bolt}
use Rattle.parts.specs.declared.hole.Hole.{Hole}
use Rattle.parts.specs.declared.load.LoadKind.{LoadKind}
use Rattle.parts.specs.declared.load.LoadKind.TheVariants.{Dead, Live, RoofLive, Snow, Rain, Wind, Earthquake}
use Rattle.parts.specs.LoadKinds.{letter_of, kind_number}
use Rattle.parts.specs.Sizes.{size_name}
use Rattle.parts.specs.Steels.{steel_name}
use Rattle.text.specs.Words.{line, header}
use Rattle.sections.specs.declared.line.Piece.{Piece}
use Rattle.sections.specs.declared.line.Piece.TheVariants.{Number, Signed, Word}

-- a piece of a line, as it is written
abbrev pub spelled : Piece → List ℕ
spelled (Number n) = decimal n
spelled (Signed z) = signed_decimal z
spelled (Word w) = w.now

-- width, thickness, steel, edge
abbrev pub bar_words : Bar → List (List ℕ)
bar_words b = decimal b.width ∷ decimal b.thickness ∷ steel_name b.steel ∷ decimal b.edge ∷ []

-- size, stress, planes
abbrev pub bolt_words : Bolt → List (List ℕ)
bolt_words t = size_name t.size ∷ decimal t.stress.0 ∷ decimal t.planes ∷ []

-- x, y, diameter
abbrev pub hole_words : Hole → List (List ℕ)
hole_words h = decimal h.x ∷ decimal h.y ∷ decimal h.diameter ∷ []

-- a load and its value
abbrev pub Load : Type 0
Load = LoadKind × ℤ

-- letter and value
abbrev pub load_words : Load → List (List ℕ)
load_words p = (letter_of p.0 ∷ []) ∷ signed_decimal p.1 ∷ []

abbrev pub hole_line : Hole → List ℕ
hole_line h = line (hole_words h)

abbrev pub load_line : Load → List ℕ
load_line p = line (load_words p)

abbrev pub bar_text : Bar → List ℕ
bar_text b = header 1 (codes "bar") ++ line (bar_words b)

abbrev pub bolt_text : Bolt → List ℕ
bolt_text t = header 1 (codes "bolt") ++ line (bolt_words t)

abbrev pub holes_text : List Hole → List ℕ
holes_text hs = header (length hs) (codes "holes") ++ flat_map hole_line hs

abbrev pub loads_text : List Load → List ℕ
loads_text ps = header 7 (codes "loads") ++ flat_map load_line ps

abbrev pub sections_text : Bar → Bolt → List Hole → List Load → List ℕ
sections_text b t hs ps = bar_text b ++ (bolt_text t ++ (holes_text hs ++ loads_text ps))

-- ---- the order of the load lines, which is left open

abbrev pub all_kinds : List LoadKind
all_kinds = Dead ∷ Live ∷ RoofLive ∷ Snow ∷ Rain ∷ Wind ∷ Earthquake ∷ []

-- what is certain of it: each of the seven stands once
pub record LoadOrder (order : List LoadKind) : Type 0 where
  pub once : IsPermutation all_kinds order

-- the load of a kind, by its number
abbrev pub load_at : List ℤ → LoadKind → Load
load_at ns k = (k, slice_index_or ns (kind_number k) (pos 0))

abbrev pub loads_in : List LoadKind → List ℤ → List Load
loads_in order ns = map (load_at ns) order
