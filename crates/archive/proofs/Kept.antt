-- The answers of a run keep their promises.
use Rattle.std.proofs.Common.{◌≡◌, ℕ, ◌≤◌, true, List, length, get_or, take, pos, Some, None, Ok, Err, Option, sym, ap, ◌∙◌, subst, arith}
use Rattle.std.specs.List.{ContainsAt as Has}
use Rattle.parts.specs.declared.fault.Fault.{Fault}
use Rattle.parts.specs.Holes.{before}
use Rattle.parts.specs.LoadKinds.{kind_number}
use Rattle.sheet.specs.Calls.{joint_fault}
use Rattle.sheet.specs.Details.{Details, whole, Sound}
use Rattle.sheet.specs.Law.{pairs}
use Rattle.limits.specs.declared.rated.Rated.{Rated}
use Rattle.judging.specs.Judging.{Sole}
use Rattle.judging.specs.declared.judgment.Judgment.{Judgment}
use Rattle.writing.specs.Pages.{Paged}
use Rattle.archive.specs.Given.{JudgedBy, PagedBy, PageSaid, outcome, Unless, Gives}
use Rattle.archive.specs.Lists.{account_after}
use Rattle.archive.specs.Promises.{Promised, Keeps, AllKept}
use Rattle.archive.specs.Replays.{answer_at, Replayed}
use Rattle.archive.specs.Standing.{Stood, LastLoad}
use Rattle.archive.specs.Answer.{Answer}
use Rattle.archive.specs.declared.call.Reply.TheVariants.{Accepted, Judged, Page as PageReply}
use Rattle.archive.specs.declared.call.Call.{Call}
use Rattle.archive.specs.declared.call.Call.TheVariants.{Bar, Bolt, Put, Take, Load, Judge, Page, Close, Reopen}
use Rattle.archive.proofs.Drilling.{holes_stand, holes_ordered}
use Rattle.archive.proofs.Last.{last_bar, last_bolt}
use Rattle.archive.proofs.Loading.{loads_last}

module _ (states : Details → List Rated) (calls : List Call) (k : ℕ) (within : k ≤ length calls) where
  promised : (d : Details) (j : Judgment) (chain : List ℕ) → account_after (take k calls) ≡ whole d → Sound d → Sole states d j chain → Promised states calls k d j chain
  promised d j chain holds sound sole =
      record {
        bar = last_bar calls k within _ (ap (λ a. a.bar) holds);
        bolt = last_bolt calls k within _ (ap (λ a. a.bolt) holds);
        stand = λ h. subst (λ a. (Has a.holes h → Stood calls k h) × (Stood calls k h → Has a.holes h)) holds (holes_stand calls k h within);
        order = subst (λ a. pairs before a.holes ≡ true) holds (holes_ordered calls k within);
        seven = sound.seven;
        loads = λ kind. subst (λ a. LastLoad calls k kind (get_or a.loads (kind_number kind) (pos 0))) holds (loads_last calls k kind within);
        judged = sole.judged;
      }

  -- an answer by the table alone holds no judgment
  keeps_plain : (f : Option Fault) (r : Answer) → r ≡ outcome f → Keeps states calls k r
  keeps_plain None r is = subst (Keeps states calls k) (sym is) tt
  keeps_plain (Some f) r is = subst (Keeps states calls k) (sym is) tt

  keeps_unless : (f : Option Fault) (r : Answer) (Q : Type 0) → (Q → Keeps states calls k r) → Unless f r Q → Keeps states calls k r
  keeps_unless None r Q keeps given = keeps given
  keeps_unless (Some f) r Q keeps given = keeps_plain (Some f) r given

  keeps_judged : (r : Answer) → JudgedBy states (account_after (take k calls)) r → Keeps states calls k r
  keeps_judged r by =
      subst (Keeps states calls k) (sym by.is)
      (by.details, by.chain, by.reads, promised by.details by.judgment by.chain by.holds by.sound by.sole)

  keeps_paged : (room : ℕ) (t : List ℕ) (r : Answer) → Paged states (account_after (take k calls)) t → PageSaid room t r → Keeps states calls k r
  keeps_paged room t (Ok (PageReply bytes)) paged said =
      let page = paged.page in (
        paged.details,
        page.judgment,
        page.chain,
        page.order,
        page.ordered,
        said.0 ∙ page.is,
        promised paged.details page.judgment page.chain paged.holds paged.sound page.sole,
      )
  keeps_paged room t (Ok Accepted) paged said = tt
  keeps_paged room t (Ok (Judged j slip)) paged said = absurd said
  keeps_paged room t (Err why) paged said = tt

  keeps : (c : Call) (r : Answer) → Gives states (account_after (take k calls)) c r → Keeps states calls k r
  keeps (Bar w t s e) r given = keeps_plain _ r given
  keeps (Bolt s t p) r given = keeps_plain _ r given
  keeps (Put x y d) r given = keeps_plain _ r given
  keeps (Take x y) r given = keeps_plain _ r given
  keeps (Load c n) r given = keeps_plain _ r given
  keeps Judge r given = keeps_unless (joint_fault (account_after (take k calls))) r _ (keeps_judged r) given
  keeps (Page room) r given =
      keeps_unless (joint_fault (account_after (take k calls))) r (PagedBy states (account_after (take k calls)) room r)
      (λ p. keeps_paged room p.0 r p.1 p.2) given
  keeps Close r given = keeps_plain None r given
  keeps Reopen r given = keeps_plain None r given

pub all_kept : (states : Details → List Rated) (calls : List Call) (answers : List Answer) → Replayed states calls answers → AllKept states calls answers
all_kept states calls answers run k within = keeps states calls k (omega arith) _ (answer_at answers k) (run.given k within)
