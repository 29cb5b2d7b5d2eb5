-- A page has room on a draft.
use Rattle.std.proofs.Common.{◌≡◌, ℕ, ◌+◌, ◌^◌, ◌<◌, ◌≤◌, List, [], ◌∷◌, ◌++◌, length, ℤ, pos, negsuc, ◌≤ℤ◌, codes, decimal, arith, length-append}
use lib.Signed.{mag}
use Rattle.std.specs.List.{flat_map, AllByRecursion}
use Rattle.std.specs.Fmt.{signed_decimal}
use Rattle.std.proofs.ByRecursion.{All-weaker}
use Rattle.std.proofs.lemmas.Int.{ints}
use Rattle.parts.specs.declared.load.LoadKind.{LoadKind}
use Rattle.sheet.specs.Details.{Details, Sound}
use Rattle.judging.specs.Kinds.{verdict_number}
use Rattle.judging.specs.declared.judgment.Judgment.{Judgment}
use Rattle.judging.specs.declared.judgment.Kind.{Kind}
use Rattle.judging.specs.declared.judgment.Kind.TheVariants.{Passes, Overstressed, Reverses}
use Rattle.judging.proofs.Told.{Bounded}
use Rattle.sections.specs.Texts.{LoadOrder, loads_in, sections_text}
use Rattle.sections.proofs.Room.{sections_room}
use Rattle.text.specs.Words.{line, header}
use Rattle.text.proofs.Lengths.{decimal_long, signed_long, line_one, line_more, header_long, joined_long}
use Rattle.writing.specs.Texts.{verdict_words, verdict_text, chain_line, chain_text, page_text}

kind_small : (k : Kind) → verdict_number k ≤ 2
kind_small Passes = omega arith
kind_small Overstressed = omega arith
kind_small Reverses = omega arith

between : (z : ℤ) → negsuc 1000000000 ≤ℤ z → z ≤ℤ pos 1000000000 → mag z < 2 ^ 63
between (pos n) p q = omega (arith, ints)
between (negsuc n) p q = omega (arith, ints)

-- a line of seven pieces
seven_long : (a b c d e f g : List ℕ) → length (line (a ∷ b ∷ c ∷ d ∷ e ∷ f ∷ g ∷ [])) ≡ length a + length b + length c + length d + length e + length f + length g + 7
seven_long a b c d e f g =
    omega (
      arith,
      line_more a b (c ∷ d ∷ e ∷ f ∷ g ∷ []),
      line_more b c (d ∷ e ∷ f ∷ g ∷ []),
      line_more c d (e ∷ f ∷ g ∷ []),
      line_more d e (f ∷ g ∷ []),
      line_more e f (g ∷ []),
      line_more f g [],
      line_one g,
    )

verdict_room : (j : Judgment) → Bounded j → length (verdict_text j) ≤ 176
verdict_room j b =
    omega (
      arith,
      length-append (header 1 (codes "verdict")) (line (verdict_words j)),
      header_long 1 (codes "verdict") (omega arith),
      seven_long (decimal (verdict_number j.kind)) (decimal j.row) (decimal j.state) (signed_decimal j.greatest.0) (signed_decimal j.strength.0) (signed_decimal j.net_width.0) (signed_decimal j.least.0),
      decimal_long (verdict_number j.kind) (omega (arith, kind_small j.kind)),
      decimal_long j.row (omega (arith, b.row)),
      decimal_long j.state (omega (arith, b.state)),
      signed_long j.greatest.0 (between j.greatest.0 (omega (arith, ints, b.greatest)) (omega (arith, ints, b.greatest))),
      signed_long j.strength.0 (between j.strength.0 (omega (arith, ints, b.strength)) (omega (arith, ints, b.strength))),
      signed_long j.net_width.0 (between j.net_width.0 (omega (arith, ints, b.width)) (omega (arith, ints, b.width))),
      signed_long j.least.0 (between j.least.0 (omega (arith, ints, b.least)) (omega (arith, ints, b.least))),
    )

chain_room : (ns : List ℕ) → length ns ≤ 32 → AllByRecursion (λ n. n ≤ 32) ns → length (chain_text ns) ≤ 699
chain_room ns few all =
    let each : AllByRecursion (λ n. length (chain_line n) ≤ 21) ns =
    All-weaker (λ n. n ≤ 32) (λ n. length (chain_line n) ≤ 21) (λ n h. omega (arith, line_one (decimal n), decimal_long n (omega arith))) ns all in
    omega (
      arith,
      length-append (header (length ns) (codes "chain")) (flat_map chain_line ns),
      header_long (length ns) (codes "chain") (omega arith),
      joined_long chain_line 21 ns each,
    )

pub page_room : (order : List LoadKind) (d : Details) (j : Judgment) (ns : List ℕ) → LoadOrder order → Sound d → Bounded j → length ns ≤ 32 → AllByRecursion (λ n. n ≤ 32) ns → length (page_text order d j ns) ≤ 4096
page_room order d j ns o s b few all =
    omega (
      arith,
      length-append (sections_text d.bar d.bolt d.holes (loads_in order d.loads)) (verdict_text j ++ chain_text ns),
      length-append (verdict_text j) (chain_text ns),
      sections_room d s order o,
      verdict_room j b,
      chain_room ns few all,
    )
