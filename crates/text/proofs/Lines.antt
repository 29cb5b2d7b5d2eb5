-- The first line of a text.
use Rattle.std.proofs.Common.{◌≡◌, ℕ, List, [], ◌∷◌, ◌++◌, sym, refl, ◌∙◌, append_assoc}
use Rattle.text.specs.Words.{Lacks, CutAt, spaced, NotOf, Begins, NoLine, line}
use Rattle.text.proofs.Cuts.{cut_once, no_cut}
use Rattle.text.proofs.Spaces.{pieces_once}

pub no_line : {text l rest : List ℕ} {k : ℕ} → CutAt 10 text l rest → NotOf k l → NoLine k text
no_line c none ws r long b = none ws long (record { whole = (cut_once c b.cut).0; words = b.words })

pub no_end : {text : List ℕ} {k : ℕ} → Lacks 10 text → NoLine k text
no_end {text} h ws r long b = no_cut 10 text (spaced ws) r h b.cut.is

-- a text begins with one line only
pub begins_once : {text r s : List ℕ} {ws vs : List (List ℕ)} → Begins text ws r → Begins text vs s → (ws ≡ vs) × (r ≡ s)
begins_once {text} {r} {s} {ws} {vs} p q =
    let c = cut_once p.cut q.cut in
    (pieces_once (spaced ws) ws vs (record { whole = refl; words = p.words }) (record { whole = c.0; words = q.words }), c.1)

-- a line's text, with what follows
pub line_is : {text rest : List ℕ} {ws : List (List ℕ)} → Begins text ws rest → text ≡ line ws ++ rest
unfolding line
line_is {text} {rest} {ws} b = b.cut.is ∙ sym (append_assoc (spaced ws) (10 ∷ []) rest)
