-- A list of calls, one call more at a time.
use Rattle.std.proofs.Common.{◌≡◌, ℕ, ◌+◌, ◌<◌, true, List, [], ◌∷◌, ◌++◌, length, get_or, take, Some, None, Ok, Err, Option, ok_or, sym, refl, ap, ◌∙◌, subst, arith, below_more}
use Rattle.std.proofs.lemmas.List.{get_or_append_left, get_or_default, get_or_push, length_push}
use Rattle.std.proofs.lemmas.List.Sums.{fold_more}
use Rattle.parts.specs.declared.fault.Fault.{Fault}
use Rattle.sheet.specs.Account.{Account, blank, after}
use Rattle.sheet.specs.Details.{Details}
use Rattle.sheet.specs.Kept.{open_account}
use Rattle.sheet.specs.declared.sheet.open.Open.{Open}
use Rattle.limits.specs.declared.rated.Rated.{Rated}
use Rattle.archive.specs.Given.{Gives}
use Rattle.archive.specs.Lists.{fed, account_after, opens, is_open, takes, call_at, InOrder}
use Rattle.archive.specs.Replays.{answer_at, Replayed, WrongAt, Replays}
use Rattle.archive.specs.States.{account_of, opened, Led, Leads}
use Rattle.archive.specs.Answer.{Answer}
use Rattle.archive.specs.declared.call.Reply.TheVariants.{Accepted}
use Rattle.archive.specs.declared.call.Call.{Call}
use Rattle.archive.specs.declared.call.Call.TheVariants.{Judge}
use Rattle.archive.specs.declared.call.Halt.{Halt}
use Rattle.archive.specs.declared.call.Halt.TheVariants.{OutOfOrder}
use Rattle.archive.specs.declared.state.State.{State}
use Rattle.archive.specs.declared.state.State.TheVariants.{Opened}

pub account_none : account_after [] ≡ blank
unfolding account_after
account_none = refl

pub account_more : (calls : List Call) (i : ℕ) → i < length calls → account_after (take (i + 1) calls) ≡ fed (account_after (take i calls)) (call_at calls i)
unfolding account_after
account_more calls i within = fold_more fed blank calls i Judge within

-- what holds of the account after a call, by whether the call is accepted
pub by_fault : (P : Account → Type 0) (f : Option Fault) (old new : Account) → (f ≡ None → P new) → ((g : Fault) → f ≡ Some g → P old) → P (after f old new)
by_fault P None old new accepted refused = accepted refl
by_fault P (Some g) old new accepted refused = refused g refl

open_none : is_open [] ≡ true
unfolding is_open
open_none = refl

open_more : (calls : List Call) (i : ℕ) → i < length calls → is_open (take (i + 1) calls) ≡ opens (is_open (take i calls)) (call_at calls i)
unfolding is_open
open_more calls i within = fold_more opens true calls i Judge within

-- the first i calls are answered, and s is what they lead to
pub record Ran (states : Details → List Rated) (calls : List Call) (i : ℕ) (answers : List Answer) (s : State) : Type 0 where
  pub count : length answers ≡ i
  pub account : account_of s ≡ account_after (take i calls)
  pub standing : opened s ≡ is_open (take i calls)
  pub order : InOrder calls i
  pub each : (k : ℕ) → k < i → Gives states (account_after (take k calls)) (call_at calls k) (answer_at answers k)

module _ (states : Details → List Rated) (calls : List Call) where
  pub ran_none : (answers : List Answer) (s : Open) → answers ≡ [] → open_account s ≡ blank → Ran states calls 0 answers (Opened s)
  ran_none answers s empty new =
      record {
        count = ap length empty;
        account = new ∙ sym account_none;
        standing = sym open_none;
        order = λ k h. absurd (omega arith);
        each = λ k h. absurd (omega arith);
      }

  ran_more : (i : ℕ) (answers more : List Answer) (s t : State) (d : Call) (r : Answer)
      → Ran states calls i answers s → i < length calls
      → Led states (account_of s) (opened s) (get_or calls i d) t r → more ≡ answers ++ (r ∷ [])
      → Ran states calls (i + 1) more t
  ran_more i answers more s t d r so within led grown =
      let x = call_at calls i in
      let is = get_or_default calls i d Judge within in
      let moved : Led states (account_after (take i calls)) (is_open (take i calls)) x t r =
      subst (λ y. y) (λ j. Led states (so.account j) (so.standing j) (is j) t r) led in
      record {
        count = ap length grown ∙ length_push answers r ∙ ap (λ n. n + 1) so.count;
        account = moved.account ∙ sym (account_more calls i within);
        standing = moved.standing ∙ sym (open_more calls i within);
        order = below_more _ _ so.order moved.taken;
        each = below_more _ _
            (λ k h.
            let kept : answer_at more k ≡ answer_at answers k = ap (λ xs. get_or xs k (Ok Accepted)) grown ∙ get_or_append_left answers (r ∷ []) (Ok Accepted) k (omega (arith, so.count)) in
            subst (Gives states (account_after (take k calls)) (call_at calls k)) (sym kept) (so.each k h))
            (subst (Gives states (account_after (take i calls)) x) (sym (ap (λ xs. get_or xs i (Ok Accepted)) grown ∙ get_or_push answers r (Ok Accepted) i so.count)) moved.given);
      }

  pub ran_all : (i : ℕ) (answers : List Answer) (s : State) → length calls ≡ i → Ran states calls i answers s → Replayed states calls answers
  ran_all i answers s n so =
      record { order = λ k h. so.order k (omega arith); each_answered = so.count ∙ sym n; given = λ k h. so.each k (omega arith) }

  -- a call that is taken
  pub ran_next : (i : ℕ) (answers more : List Answer) (s : State) (d : Call) (led : Option (State × Answer)) (next : State × Answer) (why : Halt)
      → ok_or led why ≡ Ok next
      → Ran states calls i answers s → i < length calls
      → Leads states (account_of s) (opened s) (get_or calls i d) (Ok led) → more ≡ answers ++ (next.1 ∷ [])
      → Ran states calls (i + 1) more next.0
  ran_next i answers more s d None next why e so within wrong grown = absurd (cc)
  ran_next i answers more s d (Some x) next why e so within led grown =
      let is : x ≡ next = cc in
      ran_more i answers more s next.0 d next.1 so within (subst (λ y. Led states (account_of s) (opened s) (get_or calls i d) y.0 y.1) is led) grown

  -- the first that is not
  pub ran_wrong : (i : ℕ) (answers : List Answer) (s : State) (d : Call) (led : Option (State × Answer)) (why : Halt) {told : ℕ}
      → told ≡ i → ok_or led (OutOfOrder told) ≡ Err why
      → Ran states calls i answers s → i < length calls
      → Leads states (account_of s) (opened s) (get_or calls i d) (Ok led) → Replays states calls (Err why)
  ran_wrong i answers s d (Some next) why place e so within led = absurd (cc)
  ran_wrong i answers s d None why place e so within wrong =
      let is = get_or_default calls i d Judge within in
      let at : WrongAt calls i =
      record { within = within; before = so.order; wrong = (λ j. takes (sym so.standing j) (sym is j)) ∙ wrong } in
      let why-is : OutOfOrder i ≡ why = rw (← place) cc in
      subst (λ w. Replays states calls (Err w)) why-is at
