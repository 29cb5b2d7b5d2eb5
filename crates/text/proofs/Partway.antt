-- A line whose first pieces are taken.
use Rattle.std.proofs.Common.{◌≡◌, ℕ, ◌+◌, ◌<◌, ◌≤◌, List, [], ◌∷◌, ◌++◌, map, length, sym, ap, ◌∙◌, subst, append_assoc, arith}
use Rattle.std.proofs.lemmas.List.{map-append}
use Rattle.std.specs.List.{AllByRecursion}
use Rattle.text.specs.Words.{CutAt, Spaced, Begun, NotOf}
use Rattle.text.proofs.Cuts.{cut_once}
use Rattle.text.proofs.Spaces.{NotBegun, not_more}

-- ps are the first of the line's n pieces if the rest is k more, and the line is no n pieces if the rest is no k
pub record Partway {P : Type 0} (said : P → List ℕ) (is_sound : ℕ → P → Type 0) (n : ℕ) (line : List ℕ) (at : ℕ) (ps : List P) (k : ℕ) (rest : List ℕ) : Type 0 where
  pub some : (ws : List (List ℕ)) → length ws ≡ k → Spaced rest ws → Spaced line (map said ps ++ ws)
  pub none : NotOf k rest → NotOf n line
  pub sound : AllByRecursion (is_sound at) ps

both : {X : Type 0} (P : X → Type 0) (xs : List X) (y : X) → AllByRecursion P xs → P y → AllByRecursion P (xs ++ y ∷ [])
both P [] y h p = (p, tt)
both P (x ∷ xs) y h p = (h.0, both P xs y h.1 p)

-- a piece, a space and more pieces
more_spaced : {t w r : List ℕ} (ws : List (List ℕ)) → 1 ≤ length ws → Begun t w r → Spaced r ws → Spaced t (w ∷ ws)
more_spaced [] h b s = absurd (omega arith)
more_spaced {t} {w} {r} (v ∷ ws) h b s = record {
  whole = b.cut.is ∙ ap (λ l. w ++ 32 ∷ l) s.whole;
  words = (record { some = b.some; plain = b.cut.first }, s.words);
}

-- what is cut off at a space is a piece, if it is something
pub word_cut : {t w r v : List ℕ} → CutAt 32 t w r → 0 < length w → v ≡ w → Begun t v r
word_cut {t} {w} {r} {v} c h e = record { some = omega (arith, ap length e); cut = subst (λ x. CutAt 32 t x r) (sym e) c }

-- and a line that begins with a space has none first
pub empty_first : {t w r : List ℕ} → CutAt 32 t w r → length w ≡ 0 → NotBegun t
empty_first c z v after b = omega (arith, ap length (cut_once c b.cut).0, b.some)

pub partway_more : {P : Type 0} {said : P → List ℕ} {is_sound : ℕ → P → Type 0} {n at j : ℕ} {line rest after : List ℕ} {ps : List P} {p : P} (k : ℕ) → Partway said is_sound n line at ps j rest → j ≡ k + 1 → 1 ≤ k → Begun rest (said p) after → is_sound at p → Partway said is_sound n line at (ps ++ p ∷ []) k after
partway_more {P} {said} {is_sound} {n} {at} {j} {line} {rest} {after} {ps} {p} k w e one b right = record {
  some = λ ws h s.
      subst (Spaced line)
      (sym (ap (λ l. l ++ ws) (map-append said ps (p ∷ [])) ∙ append_assoc (map said ps) (said p ∷ []) ws))
      (w.some (said p ∷ ws) (omega arith) (more_spaced ws (omega arith) b s));
  none = λ h. w.none (subst (λ m. NotOf m rest) (sym e) (not_more k one b h));
  sound = both (is_sound at) ps p w.sound right;
}
