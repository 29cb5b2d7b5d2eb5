-- inner: What one call makes of a sheet that is open or closed.
use Rattle.std.specs.Prelude.{◌≡◌, Bool, true, false, List, Some, None, Ok, Err, Option, Result}
use Rattle.std.specs.declared.alloc.AllocError.{AllocError}
use Rattle.sheet.specs.Account.{Account}
use Rattle.sheet.specs.Details.{Details}
use Rattle.sheet.specs.Kept.{open_account, closed_account}
use Rattle.limits.specs.declared.rated.Rated.{Rated}
use Rattle.archive.specs.Given.{Gives}
use Rattle.archive.specs.Lists.{fed, opens, takes}
use Rattle.archive.specs.Answer.{Answer}
use Rattle.archive.specs.declared.call.Call.{Call}
use Rattle.archive.specs.declared.state.State.{State}
use Rattle.archive.specs.declared.state.State.TheVariants.{Opened, Shut}

abbrev pub account_of : State → Account
account_of (Opened sheet) = open_account sheet
account_of (Shut sheet) = closed_account sheet

abbrev pub opened : State → Bool
opened (Opened sheet) = true
opened (Shut sheet) = false

-- what the call gives, and the state that it leads to
pub record Led (states : Details → List Rated) (a : Account) (b : Bool) (c : Call) (s : State) (r : Answer) : Type 0 where
  pub taken : takes b c ≡ true
  pub account : account_of s ≡ fed a c
  pub standing : opened s ≡ opens b c
  pub given : Gives states a c r

-- a call on an open (true) or a closed sheet
abbrev pub Leads : (Details → List Rated) → Account → Bool → Call → Result (Option (State × Answer)) AllocError → Type 0
Leads states a b c (Ok (Some next)) = Led states a b c next.0 next.1
Leads states a b c (Ok None) = takes b c ≡ false
Leads states a b c (Err e) = Unit {0}
