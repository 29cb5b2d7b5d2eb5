-- What the tests of the sheet's type come to, for a sheet with bar, bolt and a hole.
use Rattle.std.proofs.Common.{◌≡◌, ℕ, ◌<◌, ◌≤◌, true, false, ◌&&◌, List, length, get_or, ℤ, is_some, Some, None, Option, unwrap_or, refl, inl, inr, ⊎_elim, arith}
use Rattle.std.proofs.lemmas.Bool.{and_parts, leb-true, cases_lt, both_ways}
use Rattle.std.proofs.lemmas.Bool.Decides.{nat_tests}
use Rattle.parts.specs.declared.hole.Hole.{Hole}
use Rattle.parts.specs.declared.bar.Bar.{Bar}
use Rattle.parts.specs.declared.bolt.Bolt.{Bolt}
use Rattle.parts.specs.Holes.{before, apart, placed, drilled}
use Rattle.parts.specs.Ranges.{bar_ranges, bolt_ranges}
use Rattle.parts.specs.Sizes.{diameter_of}
use Rattle.sheet.specs.Details.{Details, Sound, Placed, Drilled, Before, no_hole, no_bar, no_bolt}
use Rattle.sheet.specs.Law.{lawful, holds, each, pairs, all_bearable}
use Rattle.sheet.proofs.Bearable.{bearable_at}
use Rattle.sheet.proofs.Holes.{each_at, pairs_at}

is_placed : (bar : Bar) (h : Hole) → placed bar h ≡ true → Placed bar h
is_placed bar h e = record { x_low = grind (arith, nat_tests); x_high = grind (arith, nat_tests); y_low = grind (arith, nat_tests); y_high = grind (arith, nat_tests) }

is_drilled : (bolt : Bolt) (h : Hole) → drilled bolt h ≡ true → Drilled bolt h
is_drilled bolt h e = record { low = grind (arith, nat_tests); high = grind (arith, nat_tests) }

is_before : (a b : Hole) → before a b ≡ true → Before a b
is_before a b e = ⊎_elim (λ l. inl l) (λ g. inr (grind (arith, nat_tests), grind (arith, nat_tests))) (cases_lt a.y b.y)

module _ (bar : Bar) (bolt : Bolt) (hs : List Hole) (ns : List ℤ) where
  given : Details
  given = record { bar = bar; bolt = bolt; holes = hs; loads = ns }

  sound_given : 0 < length hs → length hs ≤ 32 → bar_ranges bar ≡ true → bolt_ranges bolt ≡ true
      → lawful (Some bar) (Some bolt) hs ≡ true → length ns ≡ 7 → all_bearable ns ≡ true → Sound given
  unfolding lawful given
  sound_given some few r t law seven all =
      let a = and_parts (each (λ h. placed bar h && drilled bolt h) hs) (pairs before hs && pairs (apart (diameter_of bolt.size)) hs) law in
      let b = and_parts (pairs before hs) (pairs (apart (diameter_of bolt.size)) hs) a.1 in
      let at : (k : ℕ) → k < length hs → (placed bar (get_or hs k no_hole) ≡ true) × (drilled bolt (get_or hs k no_hole) ≡ true) =
      λ k h. and_parts (placed bar (get_or hs k no_hole)) (drilled bolt (get_or hs k no_hole)) (each_at (λ h. placed bar h && drilled bolt h) hs k no_hole h a.0) in
      record {
        width = (grind (arith, nat_tests), grind (arith, nat_tests));
        thickness = (grind (arith, nat_tests), grind (arith, nat_tests));
        edge = (grind (arith, nat_tests), grind (arith, nat_tests));
        stress = (grind (arith, nat_tests), grind (arith, nat_tests));
        planes = (grind (arith, nat_tests), grind (arith, nat_tests));
        some = some;
        few = few;
        placed = λ k h. is_placed bar (get_or hs k no_hole) (at k h).0;
        drilled = λ k h. is_drilled bolt (get_or hs k no_hole) (at k h).1;
        order = λ j k h l. is_before (get_or hs j no_hole) (get_or hs k no_hole) (pairs_at before hs j k no_hole h l b.0);
        spaced = λ j k h l. leb-true _ _ (pairs_at (apart (diameter_of bolt.size)) hs j k no_hole h l b.1);
        seven = seven;
        bearable = λ k h. bearable_at ns k (omega arith) all;
      }

abbrev pub shown : Option Bar → Option Bolt → List Hole → List ℤ → Details
shown bar bolt hs ns = record { bar = unwrap_or bar no_bar; bolt = unwrap_or bolt no_bolt; holes = hs; loads = ns }

pub sound_of : (bar : Option Bar) (bolt : Option Bolt) (hs : List Hole) (ns : List ℤ) → is_some bar ≡ true → is_some bolt ≡ true
    → 0 < length hs → length hs ≤ 32 → holds bar_ranges bar ≡ true → holds bolt_ranges bolt ≡ true
    → lawful bar bolt hs ≡ true → length ns ≡ 7 → all_bearable ns ≡ true → Sound (shown bar bolt hs ns)
unfolding given
sound_of None bolt hs ns p q some few r t law seven all = absurd (both_ways false refl p)
sound_of (Some bar) None hs ns p q some few r t law seven all = absurd (both_ways false refl q)
sound_of (Some bar) (Some bolt) hs ns p q some few r t law seven all = sound_given bar bolt hs ns some few r t law seven all
