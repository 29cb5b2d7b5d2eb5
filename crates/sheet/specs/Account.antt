-- The account: what a sheet is worth to the rules, fed each call with its arguments and nothing else.
use Rattle.std.specs.Prelude.{◌≡◌, Bool, true, false, cond, List, [], ◌∷◌, ◌++◌, replicate, ℤ, pos, Some, None, Ok, Err, Option, Result}
use Rattle.std.specs.List.{AllByRecursion}
use Rattle.parts.specs.declared.hole.Hole.{Hole}
use Rattle.parts.specs.declared.bar.Bar.{Bar}
use Rattle.parts.specs.declared.bolt.Bolt.{Bolt}
use Rattle.parts.specs.declared.fault.Fault.{Fault}

-- the holes in number order, the loads in newtons by their numbers
pub record Account : Type 0 where
  pub bar : Option Bar
  pub bolt : Option Bolt
  pub holes : List Hole
  pub loads : List ℤ

-- a new sheet's
abbrev pub blank : Account
blank = record { bar = None; bolt = None; holes = []; loads = replicate 7 (pos 0) }

-- a line of a table of refusals: the fault, and whether its condition holds
abbrev pub Line : Type 0
Line = Fault × Bool

-- the first line whose condition holds
abbrev pub first : List Line → Option Fault
first [] = None
first (l ∷ ls) = cond l.1 (Some l.0) (first ls)

-- what `first` gives, in words: a line whose condition holds while none before it does; or no condition holds
abbrev pub Foremost : List Line → Option Fault → Type 0
Foremost ls None = AllByRecursion (λ l. l.1 ≡ false) ls
Foremost ls (Some f) = (before : List Line) × (rest : List Line) × (ls ≡ before ++ (f, true) ∷ rest) × AllByRecursion (λ l. l.1 ≡ false) before

abbrev pub FirstTells : Type 0
FirstTells = (ls : List Line) → Foremost ls (first ls)

abbrev pub answer : Option Fault → Result (Unit {0}) Fault
answer None = Ok tt
answer (Some f) = Err f

-- what the account is after a call: a refused call leaves it
abbrev pub after : Option Fault → Account → Account → Account
after None old new = new
after (Some f) old new = old

-- what a call says and what it leaves, by the fault that its table gives
pub record Settled (fault : Option Fault) (old new : Account) (r : Result (Unit {0}) Fault) (now : Account) : Type 0 where
  pub said : r ≡ answer fault
  pub kept : now ≡ after fault old new
