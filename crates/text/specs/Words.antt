-- Lines and their pieces, as texts.
use Rattle.std.specs.Prelude.{◌≡◌, ℕ, ◌<◌, List, [], ◌∷◌, ◌++◌, length, decimal, ◌≢◌, slice_index}

-- c stands nowhere in the text
abbrev pub Lacks : ℕ → List ℕ → Type 0
Lacks c text = (k : ℕ) → k < length text → slice_index text k ≢ c

-- the first c of the text stands between these two
pub record CutAt (c : ℕ) (text before after : List ℕ) : Type 0 where
  pub is : text ≡ before ++ c ∷ after
  pub first : Lacks c before

-- one piece of a line: not empty, and without a space
pub record Word (w : List ℕ) : Type 0 where
  pub some : 0 < length w
  pub plain : Lacks 32 w

-- each of these is one
abbrev pub Words : List (List ℕ) → Type 0
Words [] = Unit {0}
Words (w ∷ ws) = Word w × Words ws

-- pieces with one space between each two
abbrev pub spaced : List (List ℕ) → List ℕ
spaced [] = []
spaced (w ∷ []) = w
spaced (w ∷ v ∷ ws) = w ++ 32 ∷ spaced (v ∷ ws)

-- the line is these pieces
pub record Spaced (line : List ℕ) (ws : List (List ℕ)) : Type 0 where
  pub whole : line ≡ spaced ws
  pub words : Words ws

-- the line is this piece, a space, and rest
pub record Begun (line w rest : List ℕ) : Type 0 where
  pub some : 0 < length w
  pub cut : CutAt 32 line w rest

-- the line is no k pieces
abbrev pub NotOf : ℕ → List ℕ → Type 0
NotOf k line = (ws : List (List ℕ)) → length ws ≡ k → Spaced line ws → ⊥

-- the text begins with a line of these pieces, and goes on with rest
pub record Begins (text : List ℕ) (ws : List (List ℕ)) (rest : List ℕ) : Type 0 where
  pub cut : CutAt 10 text (spaced ws) rest
  pub words : Words ws

-- the text begins with no line of k pieces
abbrev pub NoLine : ℕ → List ℕ → Type 0
NoLine k text = (ws : List (List ℕ)) (rest : List ℕ) → length ws ≡ k → Begins text ws rest → ⊥

-- these pieces written as a line
unfoldable pub line : List (List ℕ) → List ℕ
line ws = spaced ws ++ 10 ∷ []

-- the first line of a section: a count and a name
unfoldable pub header : ℕ → List ℕ → List ℕ
header n name = line (decimal n ∷ name ∷ [])
