-- The bar and the bolt of an account are those last accepted.
use Rattle.std.proofs.Common.{◌≡◌, ℕ, zero, suc, ◌+◌, ◌<◌, ◌≤◌, false, eqb, ◌⊎◌, List, length, take, Some, None, Option, sym, refl, ap, ◌∙◌, subst, inl, inr, ⊎_elim, add-one, arith, below_more}
use Rattle.std.proofs.lemmas.Bool.{eqb-false}
use Rattle.parts.specs.declared.bar.Bar.{Bar as SteelBar}
use Rattle.parts.specs.declared.bolt.Bolt.{Bolt as SteelBolt}
use Rattle.sheet.specs.Account.{Account, blank}
use Rattle.sheet.specs.Calls.{bar_of, bolt_of}
use Rattle.archive.specs.Lists.{fault_of, changed, fed, account_after, call_at}
use Rattle.archive.specs.Promises.{LastBar, LastBolt}
use Rattle.archive.specs.declared.call.Call.{Call}
use Rattle.archive.specs.declared.call.Call.TheVariants.{Bar, Bolt, Put, Take, Load, Judge, Page, Close, Reopen}
use Rattle.archive.proofs.Runs.{account_none, account_more, by_fault}

-- ---- a part that an accepted call sets as a whole

-- Sets a c x: the account accepts the call, and it sets the part to x
module _ {X : Type 0} (part : Account → Option X) (Sets : Account → Call → X → Type 0) where
  -- where x stands in b it is what the call sets, or it stood in a, and the call sets nothing
  abbrev Stays : Account → Call → Account → Type 0
  Stays a c b = (x : X) → part b ≡ Some x → Sets a c x ⊎ ((part a ≡ Some x) × ((y : X) → Sets a c y → ⊥))

  fed_stays : ((a : Account) (c : Call) (x : X) → Sets a c x → fault_of a c ≡ None)
      → ((a : Account) (c : Call) → fault_of a c ≡ None → Stays a c (changed a c)) → (a : Account) (c : Call) → Stays a c (fed a c)
  fed_stays accepted stays a c =
      by_fault (Stays a c) (fault_of a c) a (changed a c) (stays a c)
      (λ g e x is. inr (is, λ y s. let f : Some g ≡ None = sym e ∙ accepted a c y s in absurd (grind (arith, f))))

  module _ (calls : List Call) where
    abbrev SetAt : X → ℕ → Type 0
    SetAt x i = Sets (account_after (take i calls)) (call_at calls i) x

    abbrev Last : ℕ → X → Type 0
    Last k x = (i : ℕ) × (i < k) × SetAt x i × ((j : ℕ) (y : X) → i < j → j < k → SetAt y j → ⊥)

    last_more : (k : ℕ) (x : X) → ((y : X) → SetAt y k → ⊥) → Last k x → Last (k + 1) x
    last_more k x never (i, early, sets, none) =
        (i, omega arith, sets, λ j y late high s. below_more (λ j. i < j → (y : X) → SetAt y j → ⊥) k (λ j h late y s. none j y late h s) (λ late. never) j high late y s)

    last_all : part blank ≡ None → ((a : Account) (c : Call) → Stays a c (fed a c))
        → (k : ℕ) → k ≤ length calls → (x : X) → part (account_after (take k calls)) ≡ Some x → Last k x
    last_all empty stays zero within x is = absurd (let e = ap part account_none in let z : ◌≡◌ {A = ℕ} 0 1 = cc in omega arith)
    last_all empty stays (suc k) within x is =
        let here = account_more calls k (omega arith) in
        let is' = sym (ap part here) ∙ ap (λ n. part (account_after (take n calls))) (add-one k) ∙ is in
        subst (λ n. Last n x) (add-one k) (⊎_elim
        (λ sets. (k, omega arith, sets, λ j y low high s. absurd (omega arith)))
        (λ kept. last_more k x kept.1 (last_all empty stays k (omega arith) x kept.0))
        (stays _ (call_at calls k) x is'))

-- ---- bar and bolt

-- which part a call sets, if one of these
abbrev part_of : Call → ℕ
part_of (Bar w t s e) = 1
part_of (Bolt s t p) = 2
part_of (Put x y d) = 0
part_of (Take x y) = 0
part_of (Load c n) = 0
part_of Judge = 0
part_of (Page room) = 0
part_of Close = 0
part_of Reopen = 0

abbrev SetsBar : Account → Call → SteelBar → Type 0
SetsBar a c b = (w t s e : ℕ) × (c ≡ Bar w t s e) × (bar_of w t s e ≡ Some b) × (fault_of a c ≡ None)

abbrev SetsBolt : Account → Call → SteelBolt → Type 0
SetsBolt a c b = (s t p : ℕ) × (c ≡ Bolt s t p) × (bolt_of s t p ≡ Some b) × (fault_of a c ≡ None)

abbrev BarStays : Account → Call → Type 0
BarStays a c = Stays (λ d. d.bar) SetsBar a c (changed a c)

abbrev BoltStays : Account → Call → Type 0
BoltStays a c = Stays (λ d. d.bolt) SetsBolt a c (changed a c)

bar_same : (a : Account) (c : Call) → eqb (part_of c) 1 ≡ false → (changed a c).bar ≡ a.bar → BarStays a c
bar_same a c other same x is = inr (sym same ∙ is, λ y s. eqb-false _ _ other (ap part_of s.4))

bolt_same : (a : Account) (c : Call) → eqb (part_of c) 2 ≡ false → (changed a c).bolt ≡ a.bolt → BoltStays a c
bolt_same a c other same x is = inr (sym same ∙ is, λ y s. eqb-false _ _ other (ap part_of s.3))

both_same : (a : Account) (c : Call) → part_of c ≡ 0 → (changed a c).bar ≡ a.bar → (changed a c).bolt ≡ a.bolt → BarStays a c × BoltStays a c
both_same a c other bar bolt = (bar_same a c (ap (λ n. eqb n 1) other) bar, bolt_same a c (ap (λ n. eqb n 2) other) bolt)

changed_stays : (a : Account) (c : Call) → fault_of a c ≡ None → BarStays a c × BoltStays a c
changed_stays a (Bar w t s e) free = (λ x is. inl (w, t, s, e, refl, is, free), bolt_same a (Bar w t s e) refl refl)
changed_stays a (Bolt s t p) free = (bar_same a (Bolt s t p) refl refl, λ x is. inl (s, t, p, refl, is, free))
changed_stays a (Put x y d) free = both_same a (Put x y d) refl refl refl
changed_stays a (Take x y) free = both_same a (Take x y) refl refl refl
changed_stays a (Load c n) free = both_same a (Load c n) refl refl refl
changed_stays a Judge free = both_same a Judge refl refl refl
changed_stays a (Page room) free = both_same a (Page room) refl refl refl
changed_stays a Close free = both_same a Close refl refl refl
changed_stays a Reopen free = both_same a Reopen refl refl refl

pub last_bar : (calls : List Call) (k : ℕ) → k ≤ length calls → (b : SteelBar) → (account_after (take k calls)).bar ≡ Some b → LastBar calls k b
last_bar calls = last_all (λ d. d.bar) SetsBar calls refl (fed_stays (λ d. d.bar) SetsBar (λ a c b s. s.6) (λ a c free. (changed_stays a c free).0))

pub last_bolt : (calls : List Call) (k : ℕ) → k ≤ length calls → (b : SteelBolt) → (account_after (take k calls)).bolt ≡ Some b → LastBolt calls k b
last_bolt calls = last_all (λ d. d.bolt) SetsBolt calls refl (fed_stays (λ d. d.bolt) SetsBolt (λ a c b s. s.5) (λ a c free. (changed_stays a c free).1))
