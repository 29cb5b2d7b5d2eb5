-- The first line of a section.
use Rattle.std.proofs.Common.{◌≡◌, ℕ, ◌<◌, List, [], ◌∷◌, decimal, refl}
use Rattle.text.specs.Words.{Begins, line, header}
use Rattle.text.proofs.Figures.{number_once}
use Rattle.text.proofs.Heads.{two_heads}
use Rattle.text.proofs.Lines.{begins_once}

pub header_line : (n : ℕ) (name : List ℕ) → header n name ≡ line (decimal n ∷ name ∷ [])
unfolding header
header_line n name = refl

-- a text begins with one header only
pub header_once : (m n : ℕ) {text a b r s : List ℕ} → m < 1000000000 → n < 1000000000 → Begins text (decimal m ∷ a ∷ []) r → Begins text (decimal n ∷ b ∷ []) s → (m ≡ n) × (a ≡ b) × (r ≡ s)
header_once m n {text} {a} {b} {r} {s} p q h k =
    let o = begins_once h k in
    let e = two_heads o.0 in
    (number_once m n p q e.0, e.1, o.1)
