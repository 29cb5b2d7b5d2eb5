-- Where a line is so many pieces, and where not.
use Rattle.std.proofs.Common.{◌≡◌, ℕ, ◌+◌, ◌≤◌, List, [], ◌∷◌, length, sym, refl, ap, ◌∙◌, subst, arith}
use Rattle.text.specs.Words.{Lacks, CutAt, Word, Spaced, spaced, Begun, NotOf}
use Rattle.text.proofs.Cuts.{cut_once, no_cut}

abbrev pub NotBegun : List ℕ → Type 0
NotBegun line = (w rest : List ℕ) → Begun line w rest → ⊥

pub no_space : (t : List ℕ) → Lacks 32 t → NotBegun t
no_space t h w r b = no_cut 32 t w r h b.cut.is

pub several : {t x r : List ℕ} → CutAt 32 t x r → Word t → ⊥
several {t} {x} {r} c w = no_cut 32 t x r w.plain c.is

pub not_one : (t : List ℕ) → (Word t → ⊥) → NotOf 1 t
not_one t h [] l s = absurd (omega arith)
not_one t h (w ∷ []) l s = h (subst Word (sym s.whole) s.words.0)
not_one t h (w ∷ v ∷ ws) l s = absurd (omega arith)

begun_of : {t w v : List ℕ} {ws : List (List ℕ)} → Spaced t (w ∷ v ∷ ws) → Begun t w (spaced (v ∷ ws))
begun_of s = record { some = s.words.0.some; cut = record { is = s.whole; first = s.words.0.plain } }

pub not_begun : (k : ℕ) (t : List ℕ) → 2 ≤ k → NotBegun t → NotOf k t
not_begun k t two h [] l s = absurd (omega arith)
not_begun k t two h (w ∷ []) l s = absurd (omega arith)
not_begun k t two h (w ∷ v ∷ ws) l s = h w (spaced (v ∷ ws)) (begun_of s)

pub not_more : (k : ℕ) {t w r : List ℕ} → 1 ≤ k → Begun t w r → NotOf k r → NotOf (k + 1) t
not_more k h b none [] l s = absurd (omega arith)
not_more k h b none (a ∷ []) l s = absurd (omega arith)
not_more k h b none (a ∷ v ∷ ws) l s =
    none (v ∷ ws) (omega arith) (record { whole = (cut_once b.cut (begun_of s).cut).1; words = s.words.1 })

not_empty : (v : List ℕ) (vs : List (List ℕ)) → Spaced [] (v ∷ vs) → ⊥
not_empty v [] s = omega (arith, ap length s.whole, s.words.0.some)
not_empty v (u ∷ vs) s = no_cut 32 [] v (spaced (u ∷ vs)) (λ k h e. omega arith) s.whole

-- a line is these pieces in one way only
pub pieces_once : (line : List ℕ) (ws vs : List (List ℕ)) → Spaced line ws → Spaced line vs → ws ≡ vs
pieces_once line [] [] p q = refl
pieces_once line [] (v ∷ vs) p q = absurd (not_empty v vs (record { whole = sym p.whole ∙ q.whole; words = q.words }))
pieces_once line (w ∷ ws) [] p q = absurd (not_empty w ws (record { whole = sym q.whole ∙ p.whole; words = p.words }))
pieces_once line (w ∷ []) (v ∷ []) p q = ap (λ x. x ∷ []) (sym p.whole ∙ q.whole)
pieces_once line (w ∷ []) (v ∷ u ∷ vs) p q = absurd (no_cut 32 w v (spaced (u ∷ vs)) p.words.0.plain (sym p.whole ∙ q.whole))
pieces_once line (w ∷ x ∷ ws) (v ∷ []) p q = absurd (no_cut 32 v w (spaced (x ∷ ws)) q.words.0.plain (sym q.whole ∙ p.whole))
pieces_once line (w ∷ x ∷ ws) (v ∷ u ∷ vs) p q =
    let c = cut_once (begun_of p).cut (begun_of q).cut in
    let h = c.0 in
    let r = pieces_once (spaced (x ∷ ws)) (x ∷ ws) (u ∷ vs) (record { whole = refl; words = p.words.1 }) (record { whole = c.1; words = q.words.1 }) in
    cc
