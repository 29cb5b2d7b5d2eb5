-- A page that is read line by line.
use Rattle.std.specs.Prelude.{◌≡◌, ℕ, ◌+◌, List, map, length, Some, None, Option}
use Rattle.std.specs.List.{AllByRecursion}
use Rattle.text.specs.Words.{CutAt, Begins, NoLine}
use Rattle.text.specs.declared.cursor.Cursor.{Cursor}

-- the cursor passes this line, which ends in byte 10
pub record Passes (was : Cursor) (l : List ℕ) (now : Cursor) : Type 0 where
  pub cut : CutAt 10 was.rest.now l now.rest.now
  pub count : now.line ≡ was.line + 1

-- the cursor passes a line of these pieces, each sound there
pub record Takes {P : Type 0} (says : P → List ℕ) (is_sound : ℕ → P → Type 0) (was : Cursor) (ps : List P) (now : Cursor) : Type 0 where
  pub begins : Begins was.rest.now (map says ps) now.rest.now
  pub count : now.line ≡ was.line + 1
  pub sound : AllByRecursion (is_sound now.line) ps

-- r is the k pieces of the next line; where that is no line of k pieces, the cursor stays
abbrev pub Taken : {P : Type 0} → (P → List ℕ) → (ℕ → P → Type 0) → ℕ → Cursor → Option (List P) → Cursor → Type 0
Taken says is_sound k was None now = NoLine k was.rest.now × (now ≡ was)
Taken says is_sound k was (Some ps) now = (length ps ≡ k) × Takes says is_sound was ps now
