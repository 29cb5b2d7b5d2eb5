-- A joint is sound, and shows all of its sheet.
use Rattle.std.proofs.Common.{◌≡◌, ◌<◌, true, false, List, ℤ, is_some, Some, None, Option, refl, arith}
use Rattle.std.proofs.lemmas.Bool.{both_ways}
use Rattle.parts.specs.declared.hole.Hole.{Hole}
use Rattle.parts.specs.declared.bar.Bar.{Bar}
use Rattle.parts.specs.declared.bolt.Bolt.{Bolt}
use Rattle.sheet.specs.Account.{Account}
use Rattle.sheet.specs.Calls.{joint_fault}
use Rattle.sheet.specs.Law.{none}
use Rattle.sheet.specs.Rows.{holes_of}
use Rattle.std.proofs.lemmas.List.{length-take-le}
use Rattle.sheet.specs.Details.{Sound, details, whole}
use Rattle.sheet.specs.declared.sheet.Sheet.{Sheet}
use Rattle.sheet.specs.declared.sheet.joint.Joint.{Joint}
use Rattle.sheet.proofs.Soundness.{sound_of, shown}

pub sheet_sound : (s : Sheet) → is_some s.bar ≡ true → is_some s.bolt ≡ true → 0 < s.row.count
    → Sound (shown s.bar s.bolt (holes_of s.row) s.loads)
sheet_sound s p q some =
    let long = length-take-le s.row.count s.row.holes (omega (arith, s.row.long, s.row.few)) in
    sound_of s.bar s.bolt (holes_of s.row) s.loads p q
    (omega arith) (omega (arith, s.row.few)) s.bar_ok s.bolt_ok s.law s.seven s.bearable

pub joint_sound : (j : Joint) → Sound (details j)
joint_sound j = sheet_sound j.sheet.now j.barred j.bolted j.some

-- a sheet that can be judged has all that its joint shows
pub all_shown : (bar : Option Bar) (bolt : Option Bolt) (hs : List Hole) (ns : List ℤ) → is_some bar ≡ true → is_some bolt ≡ true
    → ◌≡◌ {A = Account} (record { bar = bar; bolt = bolt; holes = hs; loads = ns }) (whole (shown bar bolt hs ns))
all_shown None bolt hs ns p q = absurd (both_ways false refl p)
all_shown (Some bar) None hs ns p q = absurd (both_ways false refl q)
all_shown (Some bar) (Some bolt) hs ns p q = refl

pub no_fault : (a : Account) → is_some a.bar ≡ true → is_some a.bolt ≡ true → none a.holes ≡ false → joint_fault a ≡ None
no_fault a p q r = simp (p, q, r)
