-- What a call of the sheet comes to, by what it answered.
use Rattle.std.proofs.Common.{◌≡◌, ℕ, Bool, true, false, cond, not, Ok, Err, Some, None, Option, Result, refl, arith}
use Rattle.parts.specs.declared.fault.Fault.{Fault}
use Rattle.sheet.specs.Account.{Account, Settled}

pub settled_ok : (fault : Option Fault) {old new now : Account} {r : Result (Unit {0}) Fault} {u : Unit {0}} → Settled fault old new r now → r ≡ Ok u → (fault ≡ None) × (now ≡ new)
settled_ok None s is = (refl, s.kept)
settled_ok (Some f) s is = absurd (let h = s.said in let z : ◌≡◌ {A = ℕ} 0 1 = cc in omega arith)

pub settled_err : (fault : Option Fault) {old new now : Account} {r : Result (Unit {0}) Fault} {f : Fault} → Settled fault old new r now → r ≡ Err f → fault ≡ Some f
settled_err None s is = absurd (let h = s.said in let z : ◌≡◌ {A = ℕ} 0 1 = cc in omega arith)
settled_err (Some g) s is = let h = s.said in cc

-- the last line of a table
pub passed_last : (v : Bool) (f : Fault) → cond (not v) (Some f) None ≡ None → v ≡ true
passed_last true f e = refl
passed_last false f e = absurd (let z : ◌≡◌ {A = ℕ} 0 1 = cc in omega arith)

pub failed_last : (v : Bool) (f g : Fault) → cond (not v) (Some f) None ≡ Some g → (v ≡ false) × (g ≡ f)
failed_last true f g e = absurd (let z : ◌≡◌ {A = ℕ} 0 1 = cc in omega arith)
failed_last false f g e = (refl, cc)
