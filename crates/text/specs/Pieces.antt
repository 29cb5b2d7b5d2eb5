-- What a piece of a line says.
use Rattle.std.specs.Prelude.{◌≡◌, ℕ, List, map, length, ℤ, pos, negsuc, Some, None, Option}
use Rattle.std.specs.List.{AllByRecursion}
use Rattle.text.specs.Figures.{TellsSigned}
use Rattle.text.specs.Words.{Spaced, NotOf}
use Rattle.text.specs.declared.pieces.Piece.{Piece}
use Rattle.text.specs.declared.pieces.Piece.TheVariants.{Word, Number}

-- its stretch of the page
abbrev pub said : Piece → List ℕ
said (Word t l) = t.now
said (Number t l z) = t.now

-- the line that it stands on
abbrev pub line_of : Piece → ℕ
line_of (Word t l) = l
line_of (Number t l z) = l

-- the number that it holds
abbrev pub signed_of : Piece → Option ℤ
signed_of (Word t l) = None
signed_of (Number t l z) = Some z

-- the number that it holds, if not under 0
abbrev pub unsigned_of : Piece → Option ℕ
unsigned_of (Word t l) = None
unsigned_of (Number t l (pos n)) = Some n
unsigned_of (Number t l (negsuc n)) = None

-- a number where its text writes one, else a word
abbrev pub Right : Piece → Type 0
Right p = TellsSigned (said p) (signed_of p)

-- it stands on this line, and is right
pub record Sound (at : ℕ) (p : Piece) : Type 0 where
  pub stands : line_of p ≡ at
  pub right : Right p

-- r is the line's k pieces, each sound there, or it is no k pieces
abbrev pub Parted : {P : Type 0} → (P → List ℕ) → (ℕ → P → Type 0) → ℕ → List ℕ → ℕ → Option (List P) → Type 0
Parted says is_sound k line at None = NotOf k line
Parted says is_sound k line at (Some ps) = (length ps ≡ k) × Spaced line (map says ps) × AllByRecursion (is_sound at) ps
