-- What a well-formed line of each kind holds: the right count of pieces, and a number wherever one is due.
use Rattle.std.specs.Prelude.{ℕ, ◌<◌, List, [], ◌∷◌, ℤ, decimal}
use Rattle.std.specs.Fmt.{signed_decimal}
use Rattle.text.specs.Figures.{Nine}
use Rattle.text.specs.Words.{Begins}

-- at most nine digits
abbrev pub Short : ℕ → Type 0
Short n = n < 1000000000

-- the text begins with a line of a number and a word
pub record HeaderShape (text : List ℕ) : Type 0 where
  pub count : ℕ
  pub name : List ℕ
  pub rest : List ℕ
  pub begins : Begins text (decimal count ∷ name ∷ []) rest
  pub short : Short count

-- two numbers, a word, a number
pub record BarShape (text : List ℕ) : Type 0 where
  pub width : ℕ
  pub thickness : ℕ
  pub steel : List ℕ
  pub edge : ℕ
  pub rest : List ℕ
  pub begins : Begins text (decimal width ∷ decimal thickness ∷ steel ∷ decimal edge ∷ []) rest
  pub short : Short width × Short thickness × Short edge

-- a word and two numbers
pub record BoltShape (text : List ℕ) : Type 0 where
  pub size : List ℕ
  pub stress : ℕ
  pub planes : ℕ
  pub rest : List ℕ
  pub begins : Begins text (size ∷ decimal stress ∷ decimal planes ∷ []) rest
  pub short : Short stress × Short planes

-- three numbers
pub record HoleShape (text : List ℕ) : Type 0 where
  pub x : ℕ
  pub y : ℕ
  pub diameter : ℕ
  pub rest : List ℕ
  pub begins : Begins text (decimal x ∷ decimal y ∷ decimal diameter ∷ []) rest
  pub short : Short x × Short y × Short diameter

-- a word and a number, which may have a minus
pub record LoadShape (text : List ℕ) : Type 0 where
  pub name : List ℕ
  pub value : ℤ
  pub rest : List ℕ
  pub begins : Begins text (name ∷ signed_decimal value ∷ []) rest
  pub short : Nine value
