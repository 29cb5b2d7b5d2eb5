-- First facts of chains.
use Rattle.std.proofs.Common.{ℕ, zero, suc, ◌*◌, ◌<◌, ◌≤◌, List, [], ◌∷◌, length, Option, None, Some, ⊎_elim, mul-le-mul, arith}
use Rattle.std.proofs.Math.Nat.{div-le_self}
use Rattle.std.proofs.lemmas.Bool.{cases_lt}
use Rattle.std.specs.List.{AllByRecursion}
use Rattle.parts.specs.declared.hole.Hole.{Hole}
use Rattle.chains.specs.Chains.{the, Chain, pitch, gage, square, term}
use Rattle.chains.specs.Search.{Ready, number, May}

-- the square of a distance along the bar
pub square_most : (s : ℕ) → s ≤ 1200 → s * s ≤ 1440000
square_most s far = let m : s * s ≤ 1200 * 1200 = mul-le-mul far far in omega arith

-- what two neighbours give back at most
pub term_most : (low high : Hole) → low.x ≤ 1200 → high.x ≤ 1200 → term low high ≤ 360000000
term_most low high far far' =
    let apart : pitch low high ≤ 1200 = omega arith in
    omega (arith, square_most (pitch low high) apart, div-le_self (square low high) (gage low high))

-- the last hole of a chain is one of the holes
pub real : (hs : List Hole) (m : ℕ) (ms : List ℕ) → Chain hs (m ∷ ms) → (1 ≤ m) × (m ≤ length hs)
real hs m [] ch = ch
real hs m (k ∷ ms) ch = (ch.0, ch.1)

-- and so is each
pub numbers : (hs : List Hole) (ns : List ℕ) → Chain hs ns → AllByRecursion (λ n. (1 ≤ n) × (n ≤ length hs)) ns
numbers hs [] ch = tt
numbers hs (n ∷ []) ch = (ch, tt)
numbers hs (n ∷ m ∷ ns) ch = ((ch.0, ch.1), numbers hs (m ∷ ns) ch.3)

-- the number before the last, or 0
abbrev pub head : List ℕ → ℕ
head [] = 0
head (m ∷ ms) = m

-- its place
abbrev pub tip : List ℕ → Option ℕ
tip [] = None
tip (zero ∷ ms) = None
tip (suc j ∷ ms) = Some j

module _ (bar : ℕ) (hs : List Hole) (ok : Ready bar hs) where
  -- a lower hole has a smaller number
  smaller : (i m : ℕ) → 1 ≤ m → m ≤ length hs → (the hs m).y < (the hs (suc i)).y → m ≤ i
  smaller i zero h k lt = absurd (omega arith)
  smaller i (suc j) h k lt =
      ⊎_elim (λ l. omega arith) (λ ge. absurd (omega (arith, ok.rising i j ge (omega arith)))) (cases_lt j i)

  -- what the tail of a chain that ends in the hole of number i + 1 begins with
  pub early : (i : ℕ) (ms : List ℕ) → Chain hs (suc i ∷ ms) → (head ms ≤ i) × (number (tip ms) ≤ i) × May hs (suc i) (tip ms)
  early i [] ch = (omega arith, omega arith, tt)
  early i (zero ∷ ms) ch = absurd (omega (arith, real hs zero ms ch.3))
  early i (suc j ∷ ms) ch =
      let r = real hs (suc j) ms ch.3 in
      let low = smaller i (suc j) r.0 r.1 ch.2 in
      (low, low, ch.2)

  -- a chain has no more holes than its last one's number
  pub short : (ms : List ℕ) (i : ℕ) → Chain hs (suc i ∷ ms) → length ms ≤ i
  short [] i ch = omega arith
  short (zero ∷ ms) i ch = absurd (omega (arith, real hs zero ms ch.3))
  short (suc j ∷ ms) i ch = omega (arith, (early i (suc j ∷ ms) ch).0, short ms j ch.3)

  pub chain_few : (ns : List ℕ) → Chain hs ns → length ns ≤ 32
  chain_few [] ch = absurd ch
  chain_few (zero ∷ ns) ch = absurd (omega (arith, real hs zero ns ch))
  chain_few (suc i ∷ ns) ch = omega (arith, short ns i ch, real hs (suc i) ns ch, ok.few)
