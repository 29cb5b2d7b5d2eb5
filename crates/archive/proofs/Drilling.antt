-- The holes of an account are those that were put and not taken since.
use Rattle.std.proofs.Common.{◌≡◌, ℕ, zero, suc, ◌+◌, ◌<◌, ◌≤◌, Bool, true, false, cond, not, eqb, ◌⊎◌, List, [], ◌∷◌, length, take, Some, None, Option, sym, refl, ap, ◌∙◌, subst, inl, inr, ⊎_elim, add-one, arith, below_more}
use Rattle.std.specs.List.{ContainsAt as Has}
use Rattle.std.specs.List.Sorted.{IsPermutation}
use Rattle.std.proofs.lemmas.List.Sorted.{IsPermutation-sym}
use Rattle.std.proofs.ByRecursion.{has_shuffled}
use Rattle.std.proofs.lemmas.Bool.{and_parts, and_from, both_ways, cases_lt, cond_both, eq-eqb, eqb-true, not-false}
use Rattle.std.proofs.lemmas.Bool.Decides.{nat_tests}
use Rattle.parts.specs.declared.fault.Fault.{Fault}
use Rattle.parts.specs.declared.hole.Hole.{Hole}
use Rattle.parts.specs.Holes.{before, centred}
use Rattle.sheet.specs.Account.{Account}
use Rattle.sheet.specs.Calls.{hole_at}
use Rattle.sheet.specs.Law.{lawful, none, each, pairs, add, has_centre, without}
use Rattle.sheet.proofs.Holes.{law_none, law_put, law_without, law_pairs, each_at}
use Rattle.sheet.proofs.Numbers.{joins, leaves}
use Rattle.archive.specs.Lists.{fault_of, changed, fed, account_after, call_at}
use Rattle.archive.specs.Standing.{Stood, HolesStand}
use Rattle.archive.specs.declared.call.Call.{Call}
use Rattle.archive.specs.declared.call.Call.TheVariants.{Bar, Bolt, Put, Take, Load, Judge, Page, Close, Reopen}
use Rattle.archive.proofs.Runs.{account_none, account_more, by_fault}

-- ---- holes in a row

has_cases : (k h : Hole) (ks : List Hole) → Has (k ∷ ks) h → (k ≡ h) ⊎ Has ks h
has_cases k h ks (zero, lt, is) = inl (is k)
has_cases k h ks (suc i, lt, is) = inr (i, omega arith, is)

has_first : (k h : Hole) (ks : List Hole) → k ≡ h → Has (k ∷ ks) h
has_first k h ks e = (0, omega arith, λ d. e)

has_later : (k h : Hole) (ks : List Hole) → Has ks h → Has (k ∷ ks) h
has_later k h ks (i, lt, is) = (suc i, omega arith, is)

each_has : (p : Hole → Bool) (hs : List Hole) (h : Hole) → each p hs ≡ true → Has hs h → p h ≡ true
each_has p hs h all (i, lt, is) = sym (ap p (is h)) ∙ each_at p hs i h lt all

-- no two holes in number order have one centre
centred_once : (x y : ℕ) (k h : Hole) → before k h ≡ true → centred x y k ≡ true → centred x y h ≡ true → ⊥
centred_once x y k h early here there = grind (arith, nat_tests)

without_centre : (x y : ℕ) (hs : List Hole) (h : Hole) → pairs before hs ≡ true → Has (without x y hs) h → centred x y h ≡ true → ⊥
without_centre x y [] h order in' there = absurd (omega (arith, in'.1))
without_centre x y (k ∷ ks) h order in' there =
    let parts = and_parts (each (before k) ks) (pairs before ks) order in
    cond_both (centred x y k) ks (k ∷ without x y ks) (λ l. Has l h → centred x y h ≡ true → ⊥)
    (λ here in' there. centred_once x y k h (each_has (before k) ks h parts.0 in') here there)
    (λ away in' there. ⊎_elim (λ e. both_ways (centred x y k) away (ap (centred x y) e ∙ there)) (λ later. without_centre x y ks h parts.1 later there) (has_cases k h (without x y ks) in'))
    in' there

centred_at : (x y : ℕ) (h : Hole) → Take x y ≡ Take h.x h.y → centred x y h ≡ true
centred_at x y h is =
    let ex : h.x ≡ x = cc in
    let ey : h.y ≡ y = cc in
    and_from _ _ (eq-eqb _ _ ex) (eq-eqb _ _ ey)

at_centre : (x y : ℕ) (h : Hole) → centred x y h ≡ true → Take x y ≡ Take h.x h.y
at_centre x y h there =
    let parts = and_parts (eqb h.x x) (eqb h.y y) there in
    let ex = eqb-true _ _ parts.0 in
    let ey = eqb-true _ _ parts.1 in
    λ i. Take (sym ex i) (sym ey i)

-- ---- one call

-- the first line of a table that refuses nothing
line_free : (b : Bool) (f : Fault) (rest : Option Fault) → cond b (Some f) rest ≡ None → (b ≡ false) × (rest ≡ None)
line_free true f rest e = absurd (grind (arith, e))
line_free false f rest e = (refl, e)

some_none : (g : Fault) → Some g ≡ None → ⊥
some_none g e = grind (arith, e)

-- the account accepts the call, and it puts the hole
abbrev Puts : Account → Call → Hole → Type 0
Puts a c h = (c ≡ Put h.x h.y h.diameter) × (fault_of a c ≡ None)

-- the account accepts the call, and it takes the hole
abbrev Takes : Account → Call → Hole → Type 0
Takes a c h = (c ≡ Take h.x h.y) × (fault_of a c ≡ None)

abbrev law_of : Account → Type 0
law_of a = lawful a.bar a.bolt a.holes ≡ true

-- b has the hole that the call puts, and the holes of a but the one that the call takes
record Drills (a : Account) (c : Call) (b : Account) : Type 0 where
  law : law_of b
  put : (h : Hole) → Puts a c h → Has b.holes h
  kept : (h : Hole) → Has a.holes h → (Takes a c h → ⊥) → Has b.holes h
  others : (h : Hole) → Has b.holes h → Puts a c h ⊎ (Has a.holes h × (Takes a c h → ⊥))

drills_same : (a : Account) (c : Call) (b : Account) → law_of b → b.holes ≡ a.holes
    → ((h : Hole) → Puts a c h → ⊥) → ((h : Hole) → Takes a c h → ⊥) → Drills a c b
drills_same a c b law same no-put no-take =
    record {
      law = law;
      put = λ h p. absurd (no-put h p);
      kept = λ h in' t. subst (λ l. Has l h) (sym same) in';
      others = λ h in'. inr (subst (λ l. Has l h) same in', no-take h);
    }

-- a call that puts or takes a hole
abbrev drills : Call → Bool
drills (Bar w t s e) = false
drills (Bolt s t p) = false
drills (Put x y d) = true
drills (Take x y) = true
drills (Load c n) = false
drills Judge = false
drills (Page room) = false
drills Close = false
drills Reopen = false

drills_none : (a : Account) (c : Call) (b : Account) → drills c ≡ false → law_of b → b.holes ≡ a.holes → Drills a c b
drills_none a c b e law same =
    drills_same a c b law same
    (λ h p. both_ways (drills c) e (ap drills p.0))
    (λ h t. both_ways (drills c) e (ap drills t.0))

put_hole : (x y d : ℕ) (h : Hole) → Put x y d ≡ Put h.x h.y h.diameter → hole_at x y d ≡ h
put_hole x y d h is =
    let ex : x ≡ h.x = cc in
    let ey : y ≡ h.y = cc in
    let ed : d ≡ h.diameter = cc in
    λ i. hole_at (ex i) (ey i) (ed i)

drills_put : (a : Account) (x y d : ℕ) (b : Account) → law_of b → b.holes ≡ add (hole_at x y d) a.holes → fault_of a (Put x y d) ≡ None → Drills a (Put x y d) b
drills_put a x y d b law is free =
    let new = hole_at x y d in
    let order = subst (λ l. pairs before l ≡ true) is (law_pairs b.bar b.bolt b.holes law) in
    let joined = subst (λ l. IsPermutation (new ∷ a.holes) l) (sym is) (joins new a.holes order).same in
    record {
      law = law;
      put = λ h p. has_shuffled _ _ h joined (has_first new h a.holes (put_hole x y d h p.0));
      kept = λ h in' t. has_shuffled _ _ h joined (has_later new h a.holes in');
      others = λ h in'. ⊎_elim
          (λ e. inl (ap (λ m. Put m.x m.y m.diameter) e, free))
          (λ old. inr (old, λ t. let f = t.0 in let z : ◌≡◌ {A = ℕ} 0 1 = cc in absurd (omega arith)))
          (has_cases new h a.holes (has_shuffled _ _ h (IsPermutation-sym _ _ joined) in'));
    }

drills_take : (a : Account) (x y : ℕ) (b : Account) → law_of a → law_of b → b.holes ≡ without x y a.holes → fault_of a (Take x y) ≡ None → Drills a (Take x y) b
drills_take a x y b old-law law is free =
    let order = law_pairs a.bar a.bolt a.holes old-law in
    let there = not-false (has_centre x y a.holes) (line_free (not (has_centre x y a.holes)) _ _ free).0 in
    let gone = leaves x y a.holes order there in
    record {
      law = law;
      put = λ h p. absurd (let f = p.0 in let z : ◌≡◌ {A = ℕ} 0 1 = cc in omega arith);
      kept = λ h in' t. subst (λ l. Has l h) (sym is) (⊎_elim
          (λ e. absurd (t (at_centre x y h (sym (ap (centred x y) e) ∙ gone.centre), free)))
          (λ stays. stays)
          (has_cases gone.hole h (without x y a.holes) (has_shuffled _ _ h (IsPermutation-sym _ _ gone.same) in')));
      others = λ h in'.
          let stays = subst (λ l. Has l h) is in' in
          inr (
            has_shuffled _ _ h gone.same (has_later gone.hole h _ stays),
            λ t. without_centre x y a.holes h order stays (centred_at x y h t.0),
          );
    }

-- where bar or bolt is accepted no hole stands
changed_drills : (a : Account) (c : Call) → law_of a → fault_of a c ≡ None → Drills a c (changed a c)
changed_drills a (Bar w t s e) law free =
    drills_none a (Bar w t s e) _ refl (law_none _ _ _ (not-false _ (line_free (not (none a.holes)) _ _ free).0)) refl
changed_drills a (Bolt s t p) law free =
    drills_none a (Bolt s t p) _ refl (law_none _ _ _ (not-false _ (line_free (not (none a.holes)) _ _ free).0)) refl
changed_drills a (Put x y d) law free =
    drills_put a x y d _ (law_put a.bar a.bolt a.holes (hole_at x y d) free law).1 refl free
changed_drills a (Take x y) law free = drills_take a x y _ law (law_without a.bar a.bolt x y a.holes law) refl free
changed_drills a (Load c n) law free = drills_none a (Load c n) _ refl law refl
changed_drills a Judge law free = drills_none a Judge a refl law refl
changed_drills a (Page room) law free = drills_none a (Page room) a refl law refl
changed_drills a Close law free = drills_none a Close a refl law refl
changed_drills a Reopen law free = drills_none a Reopen a refl law refl

fed_drills : (a : Account) (c : Call) → law_of a → Drills a c (fed a c)
fed_drills a c law =
    let refused = λ (g : Fault) (e : fault_of a c ≡ Some g) (f : fault_of a c ≡ None). some_none g (sym e ∙ f) in
    by_fault (Drills a c) (fault_of a c) a (changed a c) (changed_drills a c law)
    (λ g e. drills_same a c a law refl (λ h p. refused g e p.1) (λ h t. refused g e t.1))

-- ---- all calls

module _ (calls : List Call) where
  record At (k : ℕ) : Type 0 where
    law : law_of (account_after (take k calls))
    stood : (h : Hole) → Has (account_after (take k calls)).holes h → Stood calls k h
    stands : (h : Hole) → Stood calls k h → Has (account_after (take k calls)).holes h

  at_none : At 0
  at_none =
      let empty = ap (λ a. a.holes) account_none in
      record {
        law = law_none _ _ _ (ap none empty);
        stood = λ h in'. absurd (omega (arith, (subst (λ l. Has l h) empty in').1));
        stands = λ h s. absurd (omega (arith, s.early));
      }

  -- one call more that does not take the hole
  stood_more : (k : ℕ) (h : Hole) → Stood calls k h → (Takes (account_after (take k calls)) (call_at calls k) h → ⊥) → Stood calls (k + 1) h
  stood_more k h s stays =
      record {
        put = s.put;
        early = omega (arith, s.early);
        is = s.is;
        accepted = s.accepted;
        never_taken = λ j late high is free.
            below_more (λ j. s.put < j → Takes (account_after (take j calls)) (call_at calls j) h → ⊥) k
            (λ j high late t. s.never_taken j late high t.0 t.1) (λ late. stays) j high late (is, free);
      }

  at_more : (k : ℕ) → k < length calls → At k → At (k + 1)
  at_more k within so =
      let a = account_after (take k calls) in
      let c = call_at calls k in
      let drills : Drills a c (account_after (take (k + 1) calls)) =
      subst (Drills a c) (sym (account_more calls k within)) (fed_drills a c so.law) in
      record {
        law = drills.law;
        stood = λ h in'. ⊎_elim
            (λ p. record { put = k; early = omega arith; is = p.0; accepted = p.1; never_taken = λ j late high is free. absurd (omega arith) })
            (λ old. stood_more k h (so.stood h old.0) old.1)
            (drills.others h in');
        stands = λ h s. ⊎_elim
            (λ early.
            let before : Stood calls k h =
            record { put = s.put; early = early; is = s.is; accepted = s.accepted; never_taken = λ j late high. s.never_taken j late (omega arith) } in
            drills.kept h (so.stands h before) (λ t. s.never_taken k early (omega arith) t.0 t.1))
            (λ late.
            let here : s.put ≡ k = omega (arith, s.early) in
            drills.put h (subst (λ i. Puts (account_after (take i calls)) (call_at calls i) h) here (s.is, s.accepted)))
            (cases_lt s.put k);
      }

  at_all : (k : ℕ) → k ≤ length calls → At k
  at_all zero within = at_none
  at_all (suc k) within = subst At (add-one k) (at_more k (omega arith) (at_all k (omega arith)))

pub holes_stand : HolesStand
holes_stand calls k h within = let so = at_all calls k within in (so.stood h, so.stands h)

pub holes_ordered : (calls : List Call) (k : ℕ) → k ≤ length calls → pairs before (account_after (take k calls)).holes ≡ true
holes_ordered calls k within = law_pairs _ _ _ (at_all calls k within).law
