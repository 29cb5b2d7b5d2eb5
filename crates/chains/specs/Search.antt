-- Inner: what the search takes from a joint, and what it keeps for each hole. No public contract rests on these words.
use Rattle.std.specs.Prelude.{◌≡◌, ℕ, zero, suc, ◌*◌, ◌<◌, ◌≤◌, List, [], ◌∷◌, length, ℤ, pos, ◌+ℤ◌, ◌-ℤ◌, ◌≤ℤ◌, Option, None, Some, slice_index_or}
use Rattle.parts.specs.declared.hole.Hole.{Hole}
use Rattle.sheet.specs.Details.{no_hole}
use Rattle.chains.specs.declared.search.Step.{Step}
use Rattle.chains.specs.Chains.{the, Chain, term, cut, width}
use Rattle.chains.specs.Least.{NoLater}

-- all that the search takes from a joint: bounds, and holes numbered by rising y
pub record Ready (bar : ℕ) (hs : List Hole) : Type 0 where
  pub narrow : bar ≤ 1000
  pub few : length hs ≤ 32
  pub far : (k : ℕ) → k < length hs → (slice_index_or hs k no_hole).x ≤ 1200
  pub small : (k : ℕ) → k < length hs → (slice_index_or hs k no_hole).diameter ≤ 32
  pub rising : (j k : ℕ) → j ≤ k → k < length hs → (slice_index_or hs j no_hole).y ≤ (slice_index_or hs k no_hole).y

-- ---- places: that at j is for the hole of number j + 1

-- the number of the hole at a place, and 0 for none
abbrev pub number : Option ℕ → ℕ
number None = 0
number (Some j) = suc j

abbrev pub no_step : Step
no_step = record { net = record { 0 = pos 0 }; before = None }

-- the width that the step at a place tells
abbrev pub net_at : List Step → ℕ → ℤ
net_at steps j = (slice_index_or steps j no_step).net.0

-- the place that it leads to
abbrev pub before_at : List Step → ℕ → Option ℕ
before_at steps j = (slice_index_or steps j no_step).before

-- each step leads to an earlier place, or to none
abbrev pub Falling : List Step → Type 0
Falling steps = (j : ℕ) → j < length steps → number (before_at steps j) ≤ j

-- the numbers of at most n holes that the steps lead through from a place on
abbrev pub led_within : List Step → ℕ → Option ℕ → List ℕ
led_within steps zero p = []
led_within steps (suc n) None = []
led_within steps (suc n) (Some j) = suc j ∷ led_within steps n (before_at steps j)

-- the numbers of all holes that falling steps lead through
abbrev pub led : List Step → Option ℕ → List ℕ
led steps p = led_within steps (length steps) p

-- ---- one step

-- the hole at place p, or none, may stand before that of number n
abbrev pub May : List Hole → ℕ → Option ℕ → Type 0
May hs n None = Unit {0}
May hs n (Some j) = (the hs (suc j)).y < (the hs n).y

-- the width that the hole of number n gets behind p
abbrev pub reach : ℕ → List Hole → List Step → ℕ → Option ℕ → ℤ
reach bar hs steps n None = pos (1000 * bar) -ℤ pos (cut (the hs n))
reach bar hs steps n (Some j) = net_at steps j +ℤ pos (term (the hs (suc j)) (the hs n)) -ℤ pos (cut (the hs n))

-- s tells the first of none and the places below `end` that give n the least width, and that width
pub record Picks (bar : ℕ) (hs : List Hole) (steps : List Step) (n end : ℕ) (s : Step) : Type 0 where
  pub below : number s.before ≤ end
  pub may : May hs n s.before
  pub is : s.net.0 ≡ reach bar hs steps n s.before
  pub least : (q : Option ℕ) → number q ≤ end → May hs n q → s.net.0 ≤ℤ reach bar hs steps n q
  pub first : (q : Option ℕ) → number q ≤ end → May hs n q → reach bar hs steps n q ≡ s.net.0 → number s.before ≤ number q

-- ---- all steps

-- n with `rest` before it is the least of the chains that end in n
pub record Ending (bar : ℕ) (hs : List Hole) (n : ℕ) (rest : List ℕ) : Type 0 where
  pub chain : Chain hs (n ∷ rest)
  pub narrowest : (ms : List ℕ) → Chain hs (n ∷ ms) → width bar hs (n ∷ rest) ≤ℤ width bar hs (n ∷ ms)
  pub first : (ms : List ℕ) → Chain hs (n ∷ ms) → width bar hs (n ∷ ms) ≡ width bar hs (n ∷ rest) → NoLater rest ms

-- the step at place j tells the least chain that ends in its hole
pub record Tells (bar : ℕ) (hs : List Hole) (steps : List Step) (j : ℕ) : Type 0 where
  pub rest : List ℕ
  pub ending : Ending bar hs (suc j) rest
  pub falls : number (before_at steps j) ≤ j
  pub leads : led steps (Some j) ≡ suc j ∷ rest
  pub is : net_at steps j ≡ width bar hs (suc j ∷ rest)

-- each of the steps does
abbrev pub Full : ℕ → List Hole → List Step → Type 0
Full bar hs steps = (j : ℕ) → j < length steps → Tells bar hs steps j

-- e is the first place of the least of the widths
pub record Slimmest (steps : List Step) (e : ℕ) : Type 0 where
  pub below : e < length steps
  pub least : (k : ℕ) → k < length steps → net_at steps e ≤ℤ net_at steps k
  pub first : (k : ℕ) → k < length steps → net_at steps k ≡ net_at steps e → e ≤ k
