-- The loads of an account are those last accepted.
use Rattle.std.proofs.Common.{◌≡◌, ℕ, zero, suc, ◌+◌, ◌<◌, ◌≤◌, Bool, true, false, cond, eqb, ◌⊎◌, List, length, get_or, take, set, ℤ, pos, Some, None, Option, sym, refl, ap, ◌∙◌, subst, inl, inr, ⊎_elim, add-one, arith, length-set, below_more}
use Rattle.std.proofs.lemmas.List.{get_or-replicate, get_or-set_same, get_or-set_other}
use Rattle.std.proofs.lemmas.Bool.{cases_eq}
use Rattle.parts.specs.declared.load.LoadKind.{LoadKind}
use Rattle.parts.specs.declared.load.LoadKind.TheVariants.{Dead, Live, RoofLive, Snow, Rain, Wind, Earthquake}
use Rattle.parts.specs.LoadKinds.{kind_of, kind_number}
use Rattle.sheet.specs.Account.{Account}
use Rattle.sheet.specs.Calls.{set_load, loaded}
use Rattle.archive.specs.Lists.{fault_of, changed, fed, account_after, call_at}
use Rattle.archive.specs.Standing.{Loaded, LastLoad, LoadsLast}
use Rattle.archive.specs.declared.call.Call.{Call}
use Rattle.archive.specs.declared.call.Call.TheVariants.{Bar, Bolt, Put, Take, Load, Judge, Page, Close, Reopen}
use Rattle.archive.proofs.Runs.{account_none, account_more, by_fault}

-- ---- the seven loads by their numbers

pub kind_few : (k : LoadKind) → kind_number k < 7
kind_few Dead = omega arith
kind_few Live = omega arith
kind_few RoofLive = omega arith
kind_few Snow = omega arith
kind_few Rain = omega arith
kind_few Wind = omega arith
kind_few Earthquake = omega arith

abbrev kind_at : ℕ → LoadKind
kind_at n =
    cond (eqb n 0) Dead (cond (eqb n 1) Live (cond (eqb n 2) RoofLive (cond (eqb n 3) Snow (cond (eqb n 4) Rain (cond (eqb n 5) Wind Earthquake)))))

kind_at_number : (k : LoadKind) → kind_at (kind_number k) ≡ k
kind_at_number Dead = refl
kind_at_number Live = refl
kind_at_number RoofLive = refl
kind_at_number Snow = refl
kind_at_number Rain = refl
kind_at_number Wind = refl
kind_at_number Earthquake = refl

same_kind : (j k : LoadKind) → kind_number j ≡ kind_number k → j ≡ k
same_kind j k e = sym (kind_at_number j) ∙ ap kind_at e ∙ kind_at_number k

-- ---- one call

abbrev load_at : Account → LoadKind → ℤ
load_at a kind = get_or a.loads (kind_number kind) (pos 0)

-- the account accepts the call, and it sets this load to n
abbrev Sets : Account → Call → LoadKind → ℤ → Type 0
Sets a c kind n = (letter : ℕ) × (c ≡ Load letter n) × (kind_of letter ≡ Some kind) × (fault_of a c ≡ None)

-- b has what the call sets, and the other loads of a
record Bears (a : Account) (c : Call) (b : Account) : Type 0 where
  seven : length b.loads ≡ 7
  each : (kind : LoadKind) → Sets a c kind (load_at b kind) ⊎ ((load_at b kind ≡ load_at a kind) × ((n : ℤ) → Sets a c kind n → ⊥))

bears_same : (a : Account) (c : Call) (b : Account) → length a.loads ≡ 7 → b.loads ≡ a.loads → ((kind : LoadKind) (n : ℤ) → Sets a c kind n → ⊥) → Bears a c b
bears_same a c b seven same never =
    record { seven = ap length same ∙ seven; each = λ kind. inr (ap (λ ls. get_or ls (kind_number kind) (pos 0)) same, never kind) }

bears_load : (a : Account) (letter : ℕ) (n : ℤ) (o : Option LoadKind) (b : Account) → length a.loads ≡ 7 → kind_of letter ≡ o
    → b.loads ≡ set_load o a.loads n → fault_of a (Load letter n) ≡ None → Bears a (Load letter n) b
bears_load a letter n None b seven is same free =
    bears_same a (Load letter n) b seven same (λ kind m s. absurd (let e = s.1 in let f = s.2 in let z : ◌≡◌ {A = ℕ} 0 1 = cc in omega arith))
bears_load a letter n (Some k) b seven is same free =
    record {
      seven = ap length same ∙ length-set a.loads (kind_number k) n ∙ seven;
      each = λ kind. ⊎_elim
          (λ e.
          let within : kind_number kind < length a.loads = omega (arith, kind_few kind) in
          let k-is = same_kind k kind e in
          let is-n : load_at b kind ≡ n = ap (λ ls. get_or ls (kind_number kind) (pos 0)) (same ∙ ap (λ j. set a.loads j n) e) ∙ get_or-set_same a.loads (kind_number kind) n (pos 0) within in
          inl (letter, ap (Load letter) (sym is-n), is ∙ ap Some k-is, free))
          (λ ne. inr (
            ap (λ ls. get_or ls (kind_number kind) (pos 0)) same ∙ get_or-set_other a.loads (kind_number k) (kind_number kind) n (pos 0) (λ e. ne (sym e)),
            λ m s. let f = s.1 in let h = s.2 in let e : k ≡ kind = cc in ne (ap kind_number e),
          ))
          (cases_eq (kind_number k) (kind_number kind));
    }

-- a call that is no load
abbrev loads : Call → Bool
loads (Bar w t s e) = false
loads (Bolt s t p) = false
loads (Put x y d) = false
loads (Take x y) = false
loads (Load c n) = true
loads Judge = false
loads (Page room) = false
loads Close = false
loads Reopen = false

no_load : (a : Account) (c : Call) → loads c ≡ false → (kind : LoadKind) (n : ℤ) → Sets a c kind n → ⊥
no_load a c e kind n s = let f = ap loads s.1 in let z : true ≡ false = sym f ∙ e in absurd (grind (arith, z))

changed_bears : (a : Account) (c : Call) → length a.loads ≡ 7 → fault_of a c ≡ None → Bears a c (changed a c)
changed_bears a (Bar w t s e) seven free = bears_same a (Bar w t s e) _ seven refl (no_load a (Bar w t s e) refl)
changed_bears a (Bolt s t p) seven free = bears_same a (Bolt s t p) _ seven refl (no_load a (Bolt s t p) refl)
changed_bears a (Put x y d) seven free = bears_same a (Put x y d) _ seven refl (no_load a (Put x y d) refl)
changed_bears a (Take x y) seven free = bears_same a (Take x y) _ seven refl (no_load a (Take x y) refl)
changed_bears a (Load letter n) seven free = bears_load a letter n (kind_of letter) (loaded a letter n) seven refl refl free
changed_bears a Judge seven free = bears_same a Judge a seven refl (no_load a Judge refl)
changed_bears a (Page room) seven free = bears_same a (Page room) a seven refl (no_load a (Page room) refl)
changed_bears a Close seven free = bears_same a Close a seven refl (no_load a Close refl)
changed_bears a Reopen seven free = bears_same a Reopen a seven refl (no_load a Reopen refl)

fed_bears : (a : Account) (c : Call) → length a.loads ≡ 7 → Bears a c (fed a c)
fed_bears a c seven =
    by_fault (Bears a c) (fault_of a c) a (changed a c) (changed_bears a c seven)
    (λ g e. bears_same a c a seven refl (λ kind n s. let f : Some g ≡ None = sym e ∙ s.3 in absurd (grind (arith, f))))

-- ---- all calls

module _ (calls : List Call) where
  record At (k : ℕ) : Type 0 where
    seven : length (account_after (take k calls)).loads ≡ 7
    last : (kind : LoadKind) → LastLoad calls k kind (load_at (account_after (take k calls)) kind)

  at_none : At 0
  at_none =
      record {
        seven = ap (λ a. length a.loads) account_none;
        last = λ kind. inr (ap (λ a. load_at a kind) account_none ∙ get_or-replicate 7 (kind_number kind) (pos 0) (pos 0) (kind_few kind), λ j n h l. absurd (omega arith));
      }

  last_more : (k : ℕ) (kind : LoadKind) (n m : ℤ) → m ≡ n → ((j : ℤ) → Loaded calls kind j k → ⊥) → LastLoad calls k kind n → LastLoad calls (k + 1) kind m
  last_more k kind n m same never (inl (i, early, loaded, none)) =
      inl (
        i,
        omega arith,
        subst (λ x. Loaded calls kind x i) (sym same) loaded,
        λ j x late high l. below_more (λ j. i < j → (x : ℤ) → Loaded calls kind x j → ⊥) k (λ j h late x l. none j x late h l) (λ late. never) j high late x l,
      )
  last_more k kind n m same never (inr (is, none)) =
      inr (same ∙ is, λ j x high l. below_more (λ j. (x : ℤ) → Loaded calls kind x j → ⊥) k (λ j h x l. none j x h l) never j high x l)

  at_more : (k : ℕ) → k < length calls → At k → At (k + 1)
  at_more k within so =
      let a = account_after (take k calls) in
      let bears : Bears a (call_at calls k) (account_after (take (k + 1) calls)) =
      subst (Bears a (call_at calls k)) (sym (account_more calls k within)) (fed_bears a (call_at calls k) so.seven) in
      record {
        seven = bears.seven;
        last = λ kind. ⊎_elim
            (λ sets. inl (k, omega arith, sets, λ j n low high l. absurd (omega arith)))
            (λ kept. last_more k kind _ _ kept.0 kept.1 (so.last kind))
            (bears.each kind);
      }

  at_all : (k : ℕ) → k ≤ length calls → At k
  at_all zero within = at_none
  at_all (suc k) within = subst At (add-one k) (at_more k (omega arith) (at_all k (omega arith)))

pub loads_last : LoadsLast
loads_last calls k kind within = (at_all calls k within).last kind
