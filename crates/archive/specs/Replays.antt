-- What replaying a list of calls promises.
use Rattle.std.specs.Prelude.{◌≡◌, ℕ, ◌<◌, false, List, length, take, Ok, Err, vec_items, Result, Vec, slice_index_or}
use Rattle.std.specs.declared.alloc.Global.{Global}
use Rattle.sheet.specs.Details.{Details}
use Rattle.limits.specs.declared.rated.Rated.{Rated}
use Rattle.archive.specs.Given.{Gives}
use Rattle.archive.specs.Lists.{account_after, is_open, takes, call_at, InOrder}
use Rattle.archive.specs.Answer.{Answer}
use Rattle.archive.specs.declared.call.Reply.TheVariants.{Accepted}
use Rattle.archive.specs.declared.call.Call.{Call}
use Rattle.archive.specs.declared.call.Halt.{Halt}
use Rattle.archive.specs.declared.call.Halt.TheVariants.{OutOfOrder, NoMemory}

abbrev pub answer_at : List Answer → ℕ → Answer
answer_at answers k = slice_index_or answers k (Ok Accepted)

-- as many answers as calls, and at each place the one that the rules give for the call there and the account of the calls before it
pub record Replayed (states : Details → List Rated) (calls : List Call) (answers : List Answer) : Type 0 where
  pub order : InOrder calls (length calls)
  pub each_answered : length answers ≡ length calls
  pub given : (k : ℕ) → k < length calls → Gives states (account_after (take k calls)) (call_at calls k) (answer_at answers k)

-- the first place where the list goes wrong
pub record WrongAt (calls : List Call) (place : ℕ) : Type 0 where
  pub within : place < length calls
  pub before : InOrder calls place
  pub wrong : takes (is_open (take place calls)) (call_at calls place) ≡ false

-- what the call replay answers
abbrev pub Replays : (Details → List Rated) → List Call → Result (Vec Answer Global) Halt → Type 0
Replays states calls (Ok answers) = Replayed states calls (vec_items answers)
Replays states calls (Err (OutOfOrder place)) = WrongAt calls place
Replays states calls (Err NoMemory) = Unit {0}
