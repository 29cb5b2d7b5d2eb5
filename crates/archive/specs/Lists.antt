-- The account that a list of calls leads to: fed each call with its arguments and nothing else.
use Rattle.std.specs.Prelude.{◌≡◌, ℕ, ◌<◌, Bool, true, false, not, List, take, None, fold, Option, slice_index_or}
use Rattle.parts.specs.declared.fault.Fault.{Fault}
use Rattle.sheet.specs.Account.{Account, blank, after}
use Rattle.sheet.specs.Calls.{bar_fault, barred, bolt_fault, bolted, put_fault, with_hole, hole_at, take_fault, without_hole, load_fault, loaded, joint_fault}
use Rattle.archive.specs.declared.call.Call.{Call}
use Rattle.archive.specs.declared.call.Call.TheVariants.{Bar, Bolt, Put, Take, Load, Judge, Page, Close, Reopen}

-- the first condition in the table of refusals that holds of the account and the call's arguments; that a page fits is asked apart
abbrev pub fault_of : Account → Call → Option Fault
fault_of a (Bar w t s e) = bar_fault a w t s e
fault_of a (Bolt s t p) = bolt_fault a s t p
fault_of a (Put x y d) = put_fault a (hole_at x y d)
fault_of a (Take x y) = take_fault a x y
fault_of a (Load c n) = load_fault c n
fault_of a Judge = joint_fault a
fault_of a (Page room) = joint_fault a
fault_of a Close = None
fault_of a Reopen = None

-- what an accepted call makes of the account
abbrev pub changed : Account → Call → Account
changed a (Bar w t s e) = barred a w t s e
changed a (Bolt s t p) = bolted a s t p
changed a (Put x y d) = with_hole a (hole_at x y d)
changed a (Take x y) = without_hole a x y
changed a (Load c n) = loaded a c n
changed a Judge = a
changed a (Page room) = a
changed a Close = a
changed a Reopen = a

abbrev pub fed : Account → Call → Account
fed a c = after (fault_of a c) a (changed a c)

-- the account after all of them
unfoldable pub account_after : List Call → Account
account_after calls = fold fed blank calls

-- ---- open and closed

-- whether the sheet is open after a call
abbrev pub opens : Bool → Call → Bool
opens b (Bar w t s e) = b
opens b (Bolt s t p) = b
opens b (Put x y d) = b
opens b (Take x y) = b
opens b (Load c n) = b
opens b Judge = b
opens b (Page room) = b
opens b Close = false
opens b Reopen = true

unfoldable pub is_open : List Call → Bool
is_open calls = fold opens true calls

-- whether an open sheet (true) or a closed one takes the call
abbrev pub takes : Bool → Call → Bool
takes b (Bar w t s e) = b
takes b (Bolt s t p) = b
takes b (Put x y d) = b
takes b (Take x y) = b
takes b (Load c n) = b
takes b Judge = b
takes b (Page room) = not b
takes b Close = b
takes b Reopen = not b

-- a call that is out of the list's range is never asked for
abbrev pub call_at : List Call → ℕ → Call
call_at calls k = slice_index_or calls k Judge

-- the first n calls come in an order that open and closed allow
abbrev pub InOrder : List Call → ℕ → Type 0
InOrder calls n = (k : ℕ) → k < n → takes (is_open (take k calls)) (call_at calls k) ≡ true
