-- The answer that the rules give for a call and an account.
use Rattle.std.specs.Prelude.{◌≡◌, ℕ, ◌<◌, ◌≤◌, List, reverse, length, replicate, Some, None, Ok, Err, vec_items, Option}
use Rattle.parts.specs.declared.fault.Fault.{Fault}
use Rattle.sheet.specs.Account.{Account}
use Rattle.sheet.specs.Calls.{bar_fault, bolt_fault, put_fault, hole_at, take_fault, load_fault, joint_fault}
use Rattle.sheet.specs.Details.{Details, Sound, whole}
use Rattle.chains.specs.Slips.{filed, told}
use Rattle.limits.specs.declared.rated.Rated.{Rated}
use Rattle.judging.specs.Judging.{Sole}
use Rattle.judging.specs.declared.judgment.Judgment.{Judgment}
use Rattle.writing.specs.Pages.{Paged}
use Rattle.writing.specs.declared.fault.PageFault.TheVariants.{Sheet, NoRoom}
use Rattle.archive.specs.Answer.{Answer}
use Rattle.archive.specs.declared.call.Reply.TheVariants.{Accepted, Judged, Page as PageReply}
use Rattle.archive.specs.declared.call.Call.{Call}
use Rattle.archive.specs.declared.call.Call.TheVariants.{Bar, Bolt, Put, Take, Load, Judge, Page, Close, Reopen}

-- the one judgment of the account by the bank, and its least chain
pub record JudgedBy (states : Details → List Rated) (a : Account) (r : Answer) : Type 0 where
  pub details : Details
  pub holds : a ≡ whole details
  pub sound : Sound details
  pub judgment : Judgment
  pub slip : List ℕ
  -- from its last hole backwards
  pub chain : List ℕ
  pub is : r ≡ Ok (Judged judgment slip)
  pub sole : Sole states details judgment chain
  -- a slip of noughts but for the chain, first hole first
  pub filled : slip ≡ filed (reverse chain) (replicate 32 0)
  pub reads : told slip ≡ reverse chain

-- inner: the page where it fits into the room, else that it does not fit
abbrev pub PageSaid : ℕ → List ℕ → Answer → Type 0
PageSaid room t (Ok (PageReply bytes)) = (vec_items bytes ≡ t) × (length t ≤ room)
PageSaid room t (Err NoRoom) = room < length t
PageSaid room t (Ok Accepted) = ⊥
PageSaid room t (Ok (Judged j s)) = ⊥
PageSaid room t (Err (Sheet f)) = ⊥

-- the page of the account by the bank where it fits into the room, else that it does not fit
abbrev pub PagedBy : (Details → List Rated) → Account → ℕ → Answer → Type 0
PagedBy states a room r = (t : List ℕ) × Paged states a t × PageSaid room t r

-- what a call answers that its table alone decides
abbrev pub outcome : Option Fault → Answer
outcome None = Ok Accepted
outcome (Some f) = Err (Sheet f)

-- refused where the table refuses, else as Q says
abbrev pub Unless : Option Fault → Answer → Type 0 → Type 0
Unless (Some f) r Q = r ≡ Err (Sheet f)
Unless None r Q = Q

-- refused with the first condition that holds, with its values; else answered
abbrev pub Gives : (Details → List Rated) → Account → Call → Answer → Type 0
Gives states a (Bar w t s e) r = r ≡ outcome (bar_fault a w t s e)
Gives states a (Bolt s t p) r = r ≡ outcome (bolt_fault a s t p)
Gives states a (Put x y d) r = r ≡ outcome (put_fault a (hole_at x y d))
Gives states a (Take x y) r = r ≡ outcome (take_fault a x y)
Gives states a (Load c n) r = r ≡ outcome (load_fault c n)
Gives states a Judge r = Unless (joint_fault a) r (JudgedBy states a r)
Gives states a (Page room) r = Unless (joint_fault a) r (PagedBy states a room r)
Gives states a Close r = r ≡ Ok Accepted
Gives states a Reopen r = r ≡ Ok Accepted
