-- The lines of a page, told from its last line back, are its first four sections.
use Rattle.std.proofs.Common.{◌≡◌, ℕ, List, [], ◌∷◌, ◌++◌, map, reverse, length, codes, sym, refl, ap, ◌∙◌, append_assoc, append-nil}
use mathlib.Core.List.{reverse_aux, reverse_aux-append}
use Rattle.std.specs.List.{flat_map}
use Rattle.std.proofs.lemmas.List.{length-reverse}
use Rattle.parts.specs.declared.bar.Bar.{Bar}
use Rattle.parts.specs.declared.bolt.Bolt.{Bolt}
use Rattle.parts.specs.declared.hole.Hole.{Hole}
use Rattle.reading.specs.Beginnings.{loading, written, header_words, bolt_lines, hole_lines}
use Rattle.sections.specs.Texts.{Load, hole_words, load_words, hole_line, load_line, bar_words, bolt_words, sections_text}
use Rattle.text.specs.Words.{line, header}
use Rattle.text.proofs.Headers.{header_line}

turned : {X Y : Type 0} (f : X → Y) (xs zs : List X) (r : List Y) → reverse_aux (map f (reverse_aux xs zs)) r ≡ reverse_aux (map f zs) (map f xs ++ r)
turned f [] zs r = refl
turned f (x ∷ xs) zs r = turned f xs (x ∷ zs) r

-- lines that are told backwards, before others
turned_before : {X Y : Type 0} (f : X → Y) (xs : List X) (ys r : List Y) → reverse_aux (map f (reverse xs) ++ ys) r ≡ reverse_aux ys (map f xs ++ r)
turned_before f xs ys r = reverse_aux-append (map f (reverse xs)) ys r ∙ ap (reverse_aux ys) (turned f xs [] r)

joined_map : {X : Type 0} (f : X → List (List ℕ)) (xs : List X) (r : List (List (List ℕ))) → flat_map line (map f xs ++ r) ≡ flat_map (λ x. line (f x)) xs ++ flat_map line r
joined_map f [] r = refl
joined_map f (x ∷ xs) r = ap (λ t. line (f x) ++ t) (joined_map f xs r) ∙ sym (append_assoc (line (f x)) (flat_map (λ x. line (f x)) xs) (flat_map line r))

module _ (b : Bar) (t : Bolt) (hs : List Hole) (ps : List Load) where
  abbrev page_lines : ℕ → List (List (List ℕ))
  page_lines n =
      header_words 1 (codes "bar") ∷ bar_words b ∷ header_words 1 (codes "bolt") ∷ bolt_words t ∷ header_words n (codes "holes")
      ∷ (map hole_words hs ++ (header_words 7 (codes "loads") ∷ (map load_words ps ++ [])))

  line_by_line : written (loading b t (reverse hs) (reverse ps)) ≡ flat_map line (page_lines (length hs))
  line_by_line =
      let n = length (reverse hs) in
      ap (flat_map line)
      (turned_before load_words ps (header_words 7 (codes "loads") ∷ hole_lines b t n (reverse hs)) []
      ∙ turned_before hole_words hs (header_words n (codes "holes") ∷ bolt_lines b t) (header_words 7 (codes "loads") ∷ (map load_words ps ++ [])))
      ∙ ap (λ m. flat_map line (page_lines m)) (length-reverse hs)

  abbrev by_parts : List ℕ → List ℕ → List ℕ → List ℕ → List ℕ → List ℕ → List ℕ
  by_parts bar-head bolt-head hole-head load-head holes loads =
      bar-head ++ (line (bar_words b) ++ (bolt-head ++ (line (bolt_words t) ++ (hole-head ++ (holes ++ (load-head ++ loads))))))

  grouped : (p q r s u v : List ℕ) → by_parts p q r s u v ≡ (p ++ line (bar_words b)) ++ ((q ++ line (bolt_words t)) ++ ((r ++ u) ++ (s ++ v)))
  grouped p q r s u v = simp append_assoc

  lines_joined : (n : ℕ) → flat_map line (page_lines n) ≡ by_parts (header 1 (codes "bar")) (header 1 (codes "bolt")) (header n (codes "holes")) (header 7 (codes "loads")) (flat_map hole_line hs) (flat_map load_line ps)
  lines_joined n =
      let loads = joined_map load_words ps [] ∙ append-nil (flat_map load_line ps) in
      let holes = joined_map hole_words hs (header_words 7 (codes "loads") ∷ (map load_words ps ++ [])) in
      ap (λ l. line (header_words 1 (codes "bar")) ++ (line (bar_words b) ++ (line (header_words 1 (codes "bolt")) ++ (line (bolt_words t) ++ (line (header_words n (codes "holes")) ++ l))))) (holes ∙ ap (λ l. flat_map hole_line hs ++ (line (header_words 7 (codes "loads")) ++ l)) loads)
      ∙ (λ i. by_parts (sym (header_line 1 (codes "bar")) i) (sym (header_line 1 (codes "bolt")) i) (sym (header_line n (codes "holes")) i) (sym (header_line 7 (codes "loads")) i) (flat_map hole_line hs) (flat_map load_line ps))

  pub retold : written (loading b t (reverse hs) (reverse ps)) ≡ sections_text b t hs ps
  retold = line_by_line ∙ lines_joined (length hs) ∙ grouped _ _ (header (length hs) (codes "holes")) (header 7 (codes "loads")) (flat_map hole_line hs) (flat_map load_line ps)
