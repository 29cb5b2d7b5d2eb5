-- What the law of the holes gives, and what keeps it.
use Rattle.std.proofs.Common.{◌≡◌, ℕ, zero, suc, ◌+◌, ◌-◌, ◌*◌, ◌<◌, Bool, true, false, cond, not, ◌&&◌, ◌||◌, leb, List, [], ◌∷◌, length, get_or, Some, None, Ok, Option, Result, sym, refl, ap, ◌∙◌, ⊎_elim, add_comm, arith}
use Rattle.std.proofs.lemmas.Nat.{mul-le}
use Rattle.std.proofs.lemmas.Bool.Decides.{nat_tests}
use Rattle.std.proofs.lemmas.Bool.{and_parts, and_from, cond_both, cond-true, cond-false, cases_Bool, leb-true, leb-false, not-false, both_ways, or_left, or_right}
use Rattle.parts.specs.declared.hole.Hole.{Hole}
use Rattle.parts.specs.declared.bar.Bar.{Bar}
use Rattle.parts.specs.declared.bolt.Bolt.{Bolt}
use Rattle.parts.specs.declared.bolt.Size.{Size}
use Rattle.parts.specs.declared.bolt.Size.TheVariants.{M16, M20, M22, M24}
use Rattle.parts.specs.declared.fault.Fault.{Fault}
use Rattle.sheet.specs.Account.{first, answer}
use Rattle.sheet.specs.Calls.{crowd_line, hole_fault, put_fault_by}
use Rattle.parts.specs.Sizes.{diameter_of}
use Rattle.parts.specs.Holes.{before, apart, gap, placed, drilled, centred}
use Rattle.sheet.specs.Law.{lawful, none, each, pairs, crowding, add, without}

-- without holes the law holds
pub law_none : (bar : Option Bar) (bolt : Option Bolt) (hs : List Hole) → none hs ≡ true → lawful bar bolt hs ≡ true
unfolding lawful
law_none None bolt hs e = e
law_none (Some bar) None hs e = e
law_none (Some bar) (Some bolt) [] e = refl
law_none (Some bar) (Some bolt) (h ∷ hs) e = grind (arith, nat_tests)

each_add : (p : Hole → Bool) (h : Hole) (hs : List Hole) → p h ≡ true → each p hs ≡ true → each p (add h hs) ≡ true
each_add p h [] e f = and_from _ _ e refl
each_add p h (k ∷ ks) e f =
    let both = and_parts (p k) (each p ks) f in
    cond_both (before k h) _ _ (λ l. each p l ≡ true) (λ t. and_from _ _ both.0 (each_add p h ks e both.1)) (λ t. and_from _ _ e f)

each_without : (p : Hole → Bool) (x y : ℕ) (hs : List Hole) → each p hs ≡ true → each p (without x y hs) ≡ true
each_without p x y [] f = refl
each_without p x y (k ∷ ks) f =
    let both = and_parts (p k) (each p ks) f in
    cond_both (centred x y k) _ _ (λ l. each p l ≡ true) (λ t. both.1) (λ t. and_from _ _ both.0 (each_without p x y ks both.1))

pub pairs_without : (r : Hole → Hole → Bool) (x y : ℕ) (hs : List Hole) → pairs r hs ≡ true → pairs r (without x y hs) ≡ true
pairs_without r x y [] f = refl
pairs_without r x y (k ∷ ks) f =
    let both = and_parts (each (r k) ks) (pairs r ks) f in
    cond_both (centred x y k) _ _ (λ l. pairs r l ≡ true) (λ t. both.1) (λ t. and_from _ _ (each_without (r k) x y ks both.0) (pairs_without r x y ks both.1))

gap_sym : (m n : ℕ) → gap m n ≡ gap n m
gap_sym m n = add_comm (m - n) (n - m)

apart_sym : (d : ℕ) (a b : Hole) → apart d a b ≡ apart d b a
apart_sym d a b =
    ap (λ (u : ℕ). leb (64 * (d * d)) (9 * (u * u + gap a.y b.y * gap a.y b.y))) (gap_sym a.x b.x)
    ∙ ap (λ (u : ℕ). leb (64 * (d * d)) (9 * (gap b.x a.x * gap b.x a.x + u * u))) (gap_sym a.y b.y)

apart_same : (d : ℕ) (a b : Hole) → 0 < d → apart d a b ≡ true → a.x ≡ b.x → a.y ≡ b.y → ⊥
apart_same d a b pos far ex ey =
    let gx : gap a.x b.x ≡ 0 = omega arith in
    let gy : gap a.y b.y ≡ 0 = omega arith in
    let sx : gap a.x b.x * gap a.x b.x ≡ 0 = ap (λ (u : ℕ). u * u) gx in
    let sy : gap a.y b.y * gap a.y b.y ≡ 0 = ap (λ (u : ℕ). u * u) gy in
    omega (arith, leb-true _ _ far, mul-le 1 1 d d pos pos)

before_other : (d : ℕ) (h k : Hole) → 0 < d → apart d h k ≡ true → before k h ≡ false → before h k ≡ true
before_other d h k pos far late = let differ = apart_same d h k pos far in grind (arith, nat_tests, differ)

before_trans : (a b c : Hole) → before a b ≡ true → before b c ≡ true → before a c ≡ true
before_trans a b c p q = grind (arith, nat_tests)

spaced_add : (d : ℕ) (h : Hole) (hs : List Hole) → each (apart d h) hs ≡ true → pairs (apart d) hs ≡ true → pairs (apart d) (add h hs) ≡ true
spaced_add d h [] e f = refl
spaced_add d h (k ∷ ks) e f =
    let a = and_parts (apart d h k) (each (apart d h) ks) e in
    let s = and_parts (each (apart d k) ks) (pairs (apart d) ks) f in
    cond_both (before k h) _ _ (λ l. pairs (apart d) l ≡ true)
    (λ t. and_from _ _ (each_add (apart d k) h ks (apart_sym d k h ∙ a.0) s.0) (spaced_add d h ks a.1 s.1))
    (λ t. and_from _ _ e f)

after_trans : (h k : Hole) (hs : List Hole) → before h k ≡ true → each (before k) hs ≡ true → each (before h) hs ≡ true
after_trans h k [] e f = refl
after_trans h k (m ∷ ms) e f =
    let both = and_parts (before k m) (each (before k) ms) f in
    and_from _ _ (before_trans h k m e both.0) (after_trans h k ms e both.1)

pub or_rest : (a b : Bool) → (a || b) ≡ true → a ≡ false → b ≡ true
or_rest true b e f = absurd (both_ways true f refl)
or_rest false b e f = e

abbrev pub other : Hole → Hole → Bool
other h k = before k h || before h k

-- holes that are apart have different centres
others : (d : ℕ) (h : Hole) (hs : List Hole) → 0 < d → each (apart d h) hs ≡ true → each (other h) hs ≡ true
others d h [] pos e = refl
others d h (k ∷ ks) pos e =
    let a = and_parts (apart d h k) (each (apart d h) ks) e in
    and_from _ _
    (⊎_elim (λ t. or_left _ _ t) (λ f. or_right _ _ (before_other d h k pos a.0 f)) (cases_Bool (before k h)))
    (others d h ks pos a.1)

pub numbered_add : (h : Hole) (hs : List Hole) → each (other h) hs ≡ true → pairs before hs ≡ true → pairs before (add h hs) ≡ true
numbered_add h [] e f = refl
numbered_add h (k ∷ ks) e f =
    let a = and_parts (other h k) (each (other h) ks) e in
    let s = and_parts (each (before k) ks) (pairs before ks) f in
    cond_both (before k h) _ _ (λ l. pairs before l ≡ true)
    (λ t. and_from _ _ (each_add (before k) h ks t s.0) (numbered_add h ks a.1 s.1))
    (λ t. let b = or_rest (before k h) (before h k) a.0 t in and_from _ _ (and_from _ _ b (after_trans h k ks b s.0)) f)

crowd_apart : (d : ℕ) (h : Hole) (hs : List Hole) (n : ℕ) → crowding d h hs n ≡ None → each (apart d h) hs ≡ true
crowd_apart d h [] n e = refl
crowd_apart d h (k ∷ ks) n e =
    ⊎_elim
    (λ t. and_from _ _ (apart_sym d h k ∙ t) (crowd_apart d h ks (n + 1) (sym (cond-true _ _ _ t) ∙ e)))
    (λ f. let never : Some n ≡ None = sym (cond-false _ _ _ f) ∙ e in absurd (grind (arith, never)))
    (cases_Bool (apart d k h))

diameter_of_pos : (s : Size) → 0 < diameter_of s
diameter_of_pos M16 = omega arith
diameter_of_pos M20 = omega arith
diameter_of_pos M22 = omega arith
diameter_of_pos M24 = omega arith

abbrev fits : Bar → Bolt → Hole → Bool
fits bar bolt h = placed bar h && drilled bolt h

pub law_add : (bar : Bar) (bolt : Bolt) (h : Hole) (hs : List Hole) → fits bar bolt h ≡ true → crowding (diameter_of bolt.size) h hs 1 ≡ None → lawful (Some bar) (Some bolt) hs ≡ true → lawful (Some bar) (Some bolt) (add h hs) ≡ true
unfolding lawful
law_add bar bolt h hs p free law =
    let d = diameter_of bolt.size in
    let far = crowd_apart d h hs 1 free in
    let a = and_parts (each (fits bar bolt) hs) (pairs before hs && pairs (apart d) hs) law in
    let b = and_parts (pairs before hs) (pairs (apart d) hs) a.1 in
    and_from _ _ (each_add (fits bar bolt) h hs p a.0) (and_from _ _ (numbered_add h hs (others d h hs (diameter_of_pos bolt.size) far) b.0) (spaced_add d h hs far b.1))

none_without : (x y : ℕ) (hs : List Hole) → none hs ≡ true → none (without x y hs) ≡ true
none_without x y [] e = refl
none_without x y (k ∷ ks) e = grind (arith, nat_tests)

-- one hole fewer keeps the law
pub law_without : (bar : Option Bar) (bolt : Option Bolt) (x y : ℕ) (hs : List Hole) → lawful bar bolt hs ≡ true → lawful bar bolt (without x y hs) ≡ true
unfolding lawful
law_without None bolt x y hs law = none_without x y hs law
law_without (Some bar) None x y hs law = none_without x y hs law
law_without (Some bar) (Some bolt) x y hs law =
    let d = diameter_of bolt.size in
    let a = and_parts (each (fits bar bolt) hs) (pairs before hs && pairs (apart d) hs) law in
    let b = and_parts (pairs before hs) (pairs (apart d) hs) a.1 in
    and_from _ _ (each_without (fits bar bolt) x y hs a.0) (and_from _ _ (pairs_without before x y hs b.0) (pairs_without (apart d) x y hs b.1))

first_none : (b : Bool) (f : Fault) (rest : Option Fault) → cond b (Some f) rest ≡ None → (b ≡ false) × (rest ≡ None)
first_none true f rest e = absurd (grind (arith, e))
first_none false f rest e = (refl, e)

-- what the table says where bar and bolt are there
pub put_fault_at : {bar : Option Bar} {bolt : Option Bolt} {hs ks : List Hole} (b : Bar) (t : Bolt) (h : Hole) {r : Option Fault} → bar ≡ Some b → bolt ≡ Some t → ks ≡ hs → r ≡ hole_fault b t ks h → r ≡ put_fault_by bar bolt hs h
unfolding put_fault_by
put_fault_at b t h p q s e = e ∙ (λ i. put_fault_by (sym p i) (sym q i) (s i) h)

crowd_none : (o : Option ℕ) → first (crowd_line o) ≡ None → o ≡ None
crowd_none None e = refl
crowd_none (Some n) e = absurd (grind (arith, e))

-- a hole that the table does not refuse keeps the law, and there is room for it
pub law_put : (bar : Option Bar) (bolt : Option Bolt) (hs : List Hole) (h : Hole) → put_fault_by bar bolt hs h ≡ None → lawful bar bolt hs ≡ true → (length hs < 32) × (lawful bar bolt (add h hs) ≡ true)
unfolding put_fault_by
law_put None bolt hs h e law = absurd (grind (arith, e))
law_put (Some bar) None hs h e law = absurd (grind (arith, e))
law_put (Some bar) (Some bolt) hs h e law =
    let full = first_none (leb 32 (length hs)) _ _ e in
    let diameter = first_none (not (drilled bolt h)) _ _ full.1 in
    let position = first_none (not (placed bar h)) _ _ diameter.1 in
    let free = crowd_none (crowding (diameter_of bolt.size) h hs 1) position.1 in
    let p = and_from _ _ (not-false (placed bar h) position.0) (not-false (drilled bolt h) diameter.0) in
    (leb-false 32 (length hs) full.0, law_add bar bolt h hs p free law)

no_refusal : (fault : Option Fault) (u : Unit {0}) → answer fault ≡ Ok u → fault ≡ None
no_refusal None u e = refl
no_refusal (Some f) u e = absurd (grind (arith, e))

-- the same of an answer by the table
pub law_accepted : (bar : Option Bar) (bolt : Option Bolt) (hs : List Hole) (h : Hole) {r : Result (Unit {0}) Fault} {u : Unit {0}} → r ≡ answer (put_fault_by bar bolt hs h) → r ≡ Ok u → lawful bar bolt hs ≡ true → (length hs < 32) × (lawful bar bolt (add h hs) ≡ true)
law_accepted bar bolt hs h {r} {u} says is law = law_put bar bolt hs h (no_refusal _ u (sym says ∙ is)) law

-- what the law says of each hole, and of each two
pub each_at : (p : Hole → Bool) (hs : List Hole) (i : ℕ) (z : Hole) → i < length hs → each p hs ≡ true → p (get_or hs i z) ≡ true
each_at p [] i z lt e = absurd (omega arith)
each_at p (h ∷ hs) zero z lt e = (and_parts (p h) (each p hs) e).0
each_at p (h ∷ hs) (suc i) z lt e = each_at p hs i z (omega arith) (and_parts (p h) (each p hs) e).1

pub pairs_at : (r : Hole → Hole → Bool) (hs : List Hole) (i j : ℕ) (z : Hole) → i < j → j < length hs → pairs r hs ≡ true → r (get_or hs i z) (get_or hs j z) ≡ true
pairs_at r [] i j z lt in' e = absurd (omega arith)
pairs_at r (h ∷ hs) i zero z lt in' e = absurd (omega arith)
pairs_at r (h ∷ hs) zero (suc j) z lt in' e = each_at (r h) hs j z (omega arith) (and_parts (each (r h) hs) (pairs r hs) e).0
pairs_at r (h ∷ hs) (suc i) (suc j) z lt in' e = pairs_at r hs i j z (omega arith) (omega arith) (and_parts (each (r h) hs) (pairs r hs) e).1

pub law_pairs : (bar : Option Bar) (bolt : Option Bolt) (hs : List Hole) → lawful bar bolt hs ≡ true → pairs before hs ≡ true
unfolding lawful
law_pairs None bolt [] law = refl
law_pairs None bolt (h ∷ hs) law = grind (arith, nat_tests)
law_pairs (Some bar) None [] law = refl
law_pairs (Some bar) None (h ∷ hs) law = grind (arith, nat_tests)
law_pairs (Some bar) (Some bolt) hs law =
    let a = and_parts (each (fits bar bolt) hs) (pairs before hs && pairs (apart (diameter_of bolt.size)) hs) law in
    (and_parts (pairs before hs) (pairs (apart (diameter_of bolt.size)) hs) a.1).0
