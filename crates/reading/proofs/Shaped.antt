-- A text's first line has one shape only.
use Rattle.std.proofs.Common.{◌≡◌, ℕ, List, [], ◌∷◌, decimal}
use Rattle.std.specs.Fmt.{signed_decimal}
use Rattle.text.specs.Words.{Begins}
use Rattle.text.proofs.Heads.{two_heads, three_heads, four_heads}
use Rattle.text.proofs.Lines.{begins_once}
use Rattle.reading.specs.Shapes.{HeaderShape, BarShape, BoltShape, HoleShape, LoadShape}

pub header_pieces : {text a b rest : List ℕ} → Begins text (a ∷ b ∷ []) rest → (f : HeaderShape text) → (a ≡ decimal f.count) × (b ≡ f.name)
header_pieces h f = two_heads (begins_once h f.begins).0

pub bar_pieces : {text a b s d rest : List ℕ} → Begins text (a ∷ b ∷ s ∷ d ∷ []) rest → (f : BarShape text) → (a ≡ decimal f.width) × (b ≡ decimal f.thickness) × (s ≡ f.steel) × (d ≡ decimal f.edge)
bar_pieces h f = four_heads (begins_once h f.begins).0

pub bolt_pieces : {text s a b rest : List ℕ} → Begins text (s ∷ a ∷ b ∷ []) rest → (f : BoltShape text) → (s ≡ f.size) × (a ≡ decimal f.stress) × (b ≡ decimal f.planes)
bolt_pieces h f = three_heads (begins_once h f.begins).0

pub hole_pieces : {text a b d rest : List ℕ} → Begins text (a ∷ b ∷ d ∷ []) rest → (f : HoleShape text) → (a ≡ decimal f.x) × (b ≡ decimal f.y) × (d ≡ decimal f.diameter)
hole_pieces h f = three_heads (begins_once h f.begins).0

pub load_pieces : {text a b rest : List ℕ} → Begins text (a ∷ b ∷ []) rest → (f : LoadShape text) → (a ≡ f.name) × (b ≡ signed_decimal f.value)
load_pieces h f = two_heads (begins_once h f.begins).0
