-- What stands after the first k calls, by the list of calls itself: what was accepted, and not undone since.
use Rattle.std.specs.Prelude.{◌≡◌, ℕ, ◌<◌, ◌≤◌, ◌⊎◌, List, length, take, ℤ, pos, Some, None, slice_index_or}
use Rattle.std.specs.List.{ContainsAt as Has}
use Rattle.parts.specs.declared.hole.Hole.{Hole}
use Rattle.parts.specs.declared.load.LoadKind.{LoadKind}
use Rattle.parts.specs.LoadKinds.{kind_of, kind_number}
use Rattle.archive.specs.Lists.{fault_of, account_after, call_at}
use Rattle.archive.specs.declared.call.Call.{Call}
use Rattle.archive.specs.declared.call.Call.TheVariants.{Put, Take, Load}

-- the call at i was accepted
abbrev pub AcceptedAt : List Call → ℕ → Type 0
AcceptedAt calls i = fault_of (account_after (take i calls)) (call_at calls i) ≡ None

-- a put of the hole was accepted before k, and no accepted take of its centre came after that
pub record Stood (calls : List Call) (k : ℕ) (h : Hole) : Type 0 where
  pub put : ℕ
  pub early : put < k
  pub is : call_at calls put ≡ Put h.x h.y h.diameter
  pub accepted : AcceptedAt calls put
  pub never_taken : (j : ℕ) → put < j → j < k → call_at calls j ≡ Take h.x h.y → AcceptedAt calls j → ⊥

-- the holes of the account are those that stand
abbrev pub HolesStand : Type 0
HolesStand =
    (calls : List Call) (k : ℕ) (h : Hole) → k ≤ length calls
    → (Has (account_after (take k calls)).holes h → Stood calls k h)
    × (Stood calls k h → Has (account_after (take k calls)).holes h)

-- the call at i accepted this value for the load
abbrev pub Loaded : List Call → LoadKind → ℤ → ℕ → Type 0
Loaded calls kind n i = (c : ℕ) × (call_at calls i ≡ Load c n) × (kind_of c ≡ Some kind) × AcceptedAt calls i

-- the value last accepted for the load before k, or 0 before one
abbrev pub LastLoad : List Call → ℕ → LoadKind → ℤ → Type 0
LastLoad calls k kind n =
    ((i : ℕ) × (i < k) × Loaded calls kind n i × ((j : ℕ) (m : ℤ) → i < j → j < k → Loaded calls kind m j → ⊥))
    ⊎ ((n ≡ pos 0) × ((j : ℕ) (m : ℤ) → j < k → Loaded calls kind m j → ⊥))

-- the loads of the account are those last accepted
abbrev pub LoadsLast : Type 0
LoadsLast =
    (calls : List Call) (k : ℕ) (kind : LoadKind) → k ≤ length calls
    → LastLoad calls k kind (slice_index_or (account_after (take k calls)).loads (kind_number kind) (pos 0))
