-- The list of all chains has each chain and nothing else, and the least chain's width is the net width.
use Rattle.std.proofs.Common.{◌≡◌, ℕ, zero, suc, ◌*◌, ◌<◌, ◌≤◌, Bool, true, ltb, ◌⊎◌, List, [], ◌∷◌, ◌++◌, map, length, get_or, ℤ, pos, ◌+ℤ◌, ◌≤ℤ◌, filter, sym, refl, ◌∙◌, subst, inl, inr, ⊎_elim, arith}
use borrow.Author.Differences.{ints}
use Rattle.std.specs.List.{AllByRecursion}
use Rattle.std.proofs.ByRecursion.{All-append, All-map, All-weaker, All-get_or, folded_min_z_bounds, folded_min_z_reached}
use Rattle.std.proofs.lemmas.List.{get_or-map, length-map}
use Rattle.std.proofs.lemmas.Bool.{cases_lt, lt-ltb, ltb-true, and_from, and_parts, cond_both, both_ways}
use Rattle.parts.specs.declared.hole.Hole.{Hole}
use Rattle.chains.specs.declared.search.Step.{Step}
use Rattle.chains.specs.Chains.{the, Chain, cuts, width}
use Rattle.chains.specs.Least.{Least}
use Rattle.chains.specs.NetWidth.{falls, chained, all_chains, net_width}
use Rattle.chains.specs.Search.{Ready, net_at, Tells}
use Rattle.chains.proofs.Basics.{real, head, early, chain_few}
use Rattle.chains.proofs.Ends.{level}

-- ---- what holds of each element
all_parts : {X : Type 0} (P : X → Type 0) (xs ys : List X) → AllByRecursion P (xs ++ ys) → AllByRecursion P xs × AllByRecursion P ys
all_parts P [] ys a = (tt, a)
all_parts P (x ∷ xs) ys a = let b = all_parts P xs ys a.1 in ((a.0, b.0), b.1)

all_unmapped : {X Y : Type 0} (P : Y → Type 0) (f : X → Y) (xs : List X) → AllByRecursion P (map f xs) → AllByRecursion (λ x. P (f x)) xs
all_unmapped P f [] a = tt
all_unmapped P f (x ∷ xs) a = (a.0, all_unmapped P f xs a.1)

all_unkept : {X : Type 0} (p : X → Bool) (P : X → Type 0) (xs : List X) → AllByRecursion P (filter p xs) → AllByRecursion (λ x. p x ≡ true → P x) xs
all_unkept p P [] a = tt
all_unkept p P (x ∷ xs) a =
    cond_both (p x) (x ∷ filter p xs) (filter p xs) (λ ys. AllByRecursion P ys → (p x ≡ true → P x) × AllByRecursion (λ x. p x ≡ true → P x) xs)
    (λ e b. ((λ t. b.0), all_unkept p P xs b.1)) (λ e b. ((λ t. absurd (both_ways (p x) e t)), all_unkept p P xs b)) a

all_kept : {X : Type 0} (p : X → Bool) (P Q : X → Type 0) → ((x : X) → p x ≡ true → P x → Q x) → (xs : List X) → AllByRecursion P xs → AllByRecursion Q (filter p xs)
all_kept p P Q g [] a = tt
all_kept p P Q g (x ∷ xs) a =
    cond_both (p x) (x ∷ filter p xs) (filter p xs) (AllByRecursion Q) (λ e. (g x e a.0, all_kept p P Q g xs a.1)) (λ e. all_kept p P Q g xs a.1)

-- ---- only chains
abbrev Upto : ℕ → List ℕ → Type 0
Upto n ns = AllByRecursion (λ m. (1 ≤ m) × (m ≤ n)) ns

upto_more : (n : ℕ) (ns : List ℕ) → Upto n ns → Upto (suc n) ns
upto_more n ns u = All-weaker (λ m. (1 ≤ m) × (m ≤ n)) (λ m. (1 ≤ m) × (m ≤ suc n)) (λ m h. (h.0, omega (arith, h.1))) ns u

falls_upto : (n : ℕ) → AllByRecursion (Upto n) (falls n)
falls_upto zero = (tt, tt)
falls_upto (suc n) =
    let f = falls_upto n in
    All-append (Upto (suc n)) (falls n) _ (All-weaker (Upto n) (Upto (suc n)) (upto_more n) (falls n) f)
    (All-map (Upto (suc n)) (λ ns. suc n ∷ ns) (falls n)
    (All-weaker (Upto n) (λ ns. Upto (suc n) (suc n ∷ ns)) (λ ns u. ((omega arith, omega arith), upto_more n ns u)) (falls n) f))

is_chain : (hs : List Hole) (ns : List ℕ) → chained hs ns ≡ true → Upto (length hs) ns → Chain hs ns
is_chain hs [] t u = absurd (both_ways true (sym t) refl)
is_chain hs (n ∷ []) t u = u.0
is_chain hs (n ∷ m ∷ ns) t u =
    let p = and_parts (ltb (the hs m).y (the hs n).y) (chained hs (m ∷ ns)) t in
    (u.0.0, u.0.1, ltb-true _ _ p.0, is_chain hs (m ∷ ns) p.1 u.1)

pub only_chains : (hs : List Hole) → AllByRecursion (Chain hs) (all_chains hs)
only_chains hs = all_kept (chained hs) (Upto (length hs)) (Chain hs) (is_chain hs) (falls (length hs)) (falls_upto (length hs))

-- ---- every chain
is_chained : (hs : List Hole) (ns : List ℕ) → Chain hs ns → chained hs ns ≡ true
is_chained hs [] ch = absurd ch
is_chained hs (n ∷ []) ch = refl
is_chained hs (n ∷ m ∷ ns) ch = and_from (ltb (the hs m).y (the hs n).y) (chained hs (m ∷ ns)) (lt-ltb _ _ ch.2) (is_chained hs (m ∷ ns) ch.3)

-- a chain or nothing
abbrev Part : List Hole → List ℕ → Type 0
Part hs [] = Unit {0}
Part hs (n ∷ ns) = Chain hs (n ∷ ns)

part : (hs : List Hole) (n : ℕ) (ns : List ℕ) → Chain hs (n ∷ ns) → Part hs ns
part hs n [] ch = tt
part hs n (m ∷ ns) ch = ch.3

module _ (bar : ℕ) (hs : List Hole) (ok : Ready bar hs) where
  in_falls : (P : List ℕ → Type 0) (n : ℕ) → AllByRecursion P (falls n) → (ns : List ℕ) → Part hs ns → head ns ≤ n → P ns
  in_falls P zero a [] ch le = a.0
  in_falls P zero a (m ∷ ns) ch le = absurd (omega (arith, real hs m ns ch))
  in_falls P (suc n) a [] ch le = in_falls P n (all_parts P (falls n) _ a).0 [] ch (omega arith)
  in_falls P (suc n) a (m ∷ ns) ch le =
      let b = all_parts P (falls n) _ a in
      ⊎_elim
      (λ lt. in_falls P n b.0 (m ∷ ns) ch (omega arith))
      (λ ge.
      let e : suc n ≡ m = omega arith in
      let low = early bar hs ok n ns (subst (λ (k : ℕ). Chain hs (k ∷ ns)) (sym e) ch) in
      subst (λ (k : ℕ). P (k ∷ ns)) e
      (in_falls (λ ms. P (suc n ∷ ms)) n (all_unmapped P (λ ms. suc n ∷ ms) (falls n) b.1) ns (part hs m ns ch) (omega (arith, low.0))))
      (cases_lt m (suc n))

  -- what holds of all chains in the list holds of every chain
  pub every_chain : (P : List ℕ → Type 0) → AllByRecursion P (all_chains hs) → (ns : List ℕ) → Chain hs ns → P ns
  every_chain P a [] ch = absurd ch
  every_chain P a (n ∷ ns) ch =
      in_falls (λ ms. chained hs ms ≡ true → P ms) (length hs) (all_unkept (chained hs) P (falls (length hs)) a) (n ∷ ns) ch
      (omega (arith, real hs n ns ch)) (is_chained hs (n ∷ ns) ch)

  -- ---- the net width
  pub net_low : (ns : List ℕ) → Chain hs ns → net_width bar hs ≤ℤ width bar hs ns
  unfolding net_width
  net_low ns ch =
      let r = net_width bar hs in
      let bounds = folded_min_z_bounds (pos (1000 * bar)) (map (width bar hs) (all_chains hs)) r refl in
      every_chain (λ ms. r ≤ℤ width bar hs ms) (all_unmapped (λ w. r ≤ℤ w) (width bar hs) (all_chains hs) bounds.1) ns ch

  pub net_under : net_width bar hs ≤ℤ pos (1000 * bar)
  unfolding net_width
  net_under = (folded_min_z_bounds (pos (1000 * bar)) (map (width bar hs) (all_chains hs)) (net_width bar hs) refl).0

  -- it is the bar's width or some chain's
  reached : (net_width bar hs ≡ pos (1000 * bar)) ⊎ ((ns : List ℕ) × Chain hs ns × (width bar hs ns ≡ net_width bar hs))
  unfolding net_width
  reached =
      let cs = all_chains hs in
      ⊎_elim (λ e. inl e)
      (λ h.
      let in' : h.0 < length cs = omega (arith, h.1, length-map cs (width bar hs)) in
      inr (get_or cs h.0 [], All-get_or (Chain hs) cs h.0 [] in' (only_chains hs), sym (get_or-map (width bar hs) cs h.0 [] (pos 0) in') ∙ h.2 (pos 0)))
      (folded_min_z_reached (pos (1000 * bar)) (map (width bar hs) cs) (net_width bar hs) refl)

  -- the least chain is narrower than the bar, by the hole that ends it
  under_bar : (ns : List ℕ) → Least bar hs ns → width bar hs ns ≤ℤ pos (1000 * bar)
  under_bar [] l = absurd l.chain
  under_bar (n ∷ ns) l = let h = l.narrowest (n ∷ []) (real hs n ns l.chain) in omega (arith, ints)

  pub net_is : (ns : List ℕ) → Least bar hs ns → width bar hs ns ≡ net_width bar hs
  net_is ns l =
      level (width bar hs ns) (net_width bar hs)
      (⊎_elim
      (λ e. subst (λ (z : ℤ). width bar hs ns ≤ℤ z) (sym e) (under_bar ns l))
      (λ h. subst (λ (z : ℤ). width bar hs ns ≤ℤ z) h.2 (l.narrowest h.0 h.1))
      reached)
      (net_low ns l.chain)

  -- ---- its bounds
  cuts_most : (ns : List ℕ) → Part hs ns → cuts hs ns ≤ 34000 * length ns
  cuts_most [] ch = omega arith
  cuts_most (zero ∷ ns) ch = absurd (omega (arith, real hs zero ns ch))
  cuts_most (suc i ∷ ns) ch =
      let r = real hs (suc i) ns ch in
      omega (arith, cuts_most ns (part hs (suc i) ns ch), ok.small i (omega arith))

  width_above : (ns : List ℕ) → Chain hs ns → pos 0 ≤ℤ (width bar hs ns +ℤ pos 1088000)
  width_above [] ch = absurd ch
  width_above (n ∷ ns) ch = omega (arith, ints, cuts_most (n ∷ ns) ch, chain_few bar hs ok (n ∷ ns) ch)

  pub net_above : pos 0 ≤ℤ (net_width bar hs +ℤ pos 1088000)
  net_above =
      ⊎_elim
      (λ e. subst (λ (z : ℤ). pos 0 ≤ℤ (z +ℤ pos 1088000)) (sym e) (omega (arith, ints)))
      (λ h. subst (λ (z : ℤ). pos 0 ≤ℤ (z +ℤ pos 1088000)) h.2 (width_above h.0 h.1))
      reached

  -- and those of a step
  pub told_bounds : (steps : List Step) (j : ℕ) → Tells bar hs steps j → (pos 0 ≤ℤ (net_at steps j +ℤ pos 1088000)) × (net_at steps j ≤ℤ pos 1000000)
  told_bounds steps j t =
      let only = t.ending.narrowest [] (real hs (suc j) t.rest t.ending.chain) in
      (omega (arith, ints, t.is, width_above (suc j ∷ t.rest) t.ending.chain), omega (arith, ints, t.is, ok.narrow))
