-- What the calls of a sheet promise, as the answers that the rules give.
use Rattle.std.proofs.Common.{◌≡◌, ℕ, ◌≤◌, true, false, List, length, take, drop, replicate, Some, None, Ok, vec_items, Option, Vec, sym, refl, ap, ◌∙◌, subst, arith}
use Rattle.std.specs.declared.alloc.Global.{Global}
use Rattle.std.proofs.lemmas.List.{take_at}
use Rattle.parts.specs.declared.fault.Fault.{Fault}
use Rattle.sheet.specs.Account.{Account, after}
use Rattle.sheet.specs.Calls.{joint_fault}
use Rattle.sheet.specs.Details.{Details}
use Rattle.sheet.specs.Kept.{open_account, closed_account}
use Rattle.sheet.specs.declared.sheet.closed.Closed.{Closed}
use Rattle.sheet.specs.declared.sheet.open.Open.{Open}
use Rattle.limits.specs.declared.rated.Rated.{Rated}
use Rattle.judging.specs.Judging.{Judges}
use Rattle.judging.specs.declared.judgment.Judgment.{Judgment}
use Rattle.writing.specs.Pages.{Pages}
use Rattle.archive.specs.Given.{Gives, JudgedBy, PagedBy, Unless}
use Rattle.archive.specs.States.{Led}
use Rattle.archive.specs.Answer.{Answer}
use Rattle.archive.specs.declared.call.Reply.TheVariants.{Judged, Page as PageReply}
use Rattle.archive.specs.declared.call.Call.{Call}
use Rattle.archive.specs.declared.call.Call.TheVariants.{Judge, Page}
use Rattle.archive.specs.declared.state.State.TheVariants.{Opened, Shut}

after_same : (f : Option Fault) (a : Account) → after f a a ≡ a
after_same None a = refl
after_same (Some f) a = refl

module _ (states : Details → List Rated) (a : Account) where
  pub gives_judged : (slip : List ℕ) (j : Judgment) → Judges states a (replicate 32 0) slip (Ok j) → Gives states a Judge (Ok (Judged j slip))
  gives_judged slip j (d, holds, sound, free, tells) =
      subst (λ f. Unless f (Ok (Judged j slip)) (JudgedBy states a (Ok (Judged j slip)))) (sym free)
      (record {
        details = d;
        holds = holds;
        sound = sound;
        judgment = j;
        slip = slip;
        chain = tells.chain;
        is = refl;
        sole = tells.sole;
        filled = tells.slip;
        reads = tells.reads;
      })

  pub gives_page : (room n : ℕ) (was now : List ℕ) (bytes : Vec ℕ Global) → length was ≡ room → Pages states a was (Ok n) now → vec_items bytes ≡ take n now → Gives states a (Page room) (Ok (PageReply bytes))
  gives_page room n was now bytes long (t, paged, count, within, is) e =
      let front : vec_items bytes ≡ t = e ∙ ap (take n) is ∙ take_at t (drop n was) n (sym count) in
      let fits : length t ≤ room = omega arith in
      subst (λ f. Unless f (Ok (PageReply bytes)) (PagedBy states a room (Ok (PageReply bytes)))) (sym paged.judged) (t, paged, (front, fits))

pub led_judged : (states : Details → List Rated) (s : Open) (r : Answer) → Gives states (open_account s) Judge r → Led states (open_account s) true Judge (Opened s) r
led_judged states s r given =
    record { taken = refl; account = sym (after_same (joint_fault (open_account s)) (open_account s)); standing = refl; given = given }

pub led_paged : (states : Details → List Rated) (c : Call) (s : Closed) (room : ℕ) (r : Answer) → c ≡ Page room → Gives states (closed_account s) (Page room) r → Led states (closed_account s) false c (Shut s) r
led_paged states c s room r is given =
    subst (λ x. Led states (closed_account s) false x (Shut s) r) (sym is)
    (record { taken = refl; account = sym (after_same (joint_fault (closed_account s)) (closed_account s)); standing = refl; given = given })
