-- What a draft holds, and how it is laid into a buffer.
use Rattle.std.specs.Prelude.{◌≡◌, ℕ, ◌<◌, ◌≤◌, List, ◌++◌, length, take, drop, Some, None, Option}
use Rattle.text.specs.declared.draft.Draft.{Draft}

abbrev pub written : Draft → List ℕ
written d = d.bytes.items

-- a is added at the end, as far as there is room
pub record Adds (was : Draft) (a : List ℕ) (now : Draft) : Type 0 where
  pub is : written now ≡ take 4096 (written was ++ a)

-- r bytes of t at the front of the buffer, whose other bytes are left; or nothing, where t is too long
abbrev pub Laid : List ℕ → List ℕ → Option ℕ → List ℕ → Type 0
Laid t was None now = (length was < length t) × (now ≡ was)
Laid t was (Some n) now = (n ≡ length t) × (n ≤ length was) × (now ≡ t ++ drop n was)
