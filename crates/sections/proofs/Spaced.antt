-- A line whose pieces are written one after another, each but the first after a space.
use Rattle.std.proofs.Common.{◌≡◌, ℕ, List, [], ◌∷◌, ◌++◌, length, map, refl, ap, sym, ◌∙◌, append_assoc, arith}
use Rattle.std.specs.List.{flat_map}
use Rattle.std.proofs.lemmas.List.{append-nil}
use Rattle.text.specs.Words.{spaced, line}
use Rattle.sections.specs.Texts.{spelled}
use Rattle.sections.specs.declared.line.Piece.{Piece}

-- a piece after its space
abbrev pub after_space : Piece → List ℕ
after_space p = 32 ∷ spelled p

pub spaced_out : (p : Piece) (ps : List Piece) → spelled p ++ flat_map after_space ps ≡ spaced (map spelled (p ∷ ps))
spaced_out p [] = append-nil (spelled p)
spaced_out p (q ∷ ps) = ap (λ l. spelled p ++ (32 ∷ l)) (spaced_out q ps)

pub ended : (p : Piece) (ps qs : List Piece) → qs ≡ p ∷ ps → spelled p ++ (flat_map after_space ps ++ (10 ∷ [])) ≡ line (map spelled qs)
unfolding line
ended p ps qs is =
    sym (append_assoc (spelled p) (flat_map after_space ps) (10 ∷ [])) ∙ ap (λ l. l ++ (10 ∷ [])) (spaced_out p ps) ∙ ap (λ l. spaced (map spelled l) ++ (10 ∷ [])) (sym is)

-- a line of no pieces
pub ended_bare : (qs : List Piece) → length qs ≡ 0 → 10 ∷ [] ≡ line (map spelled qs)
unfolding line
ended_bare [] is = refl
ended_bare (q ∷ qs) is = absurd (omega arith)
