-- A page that was written is read again.
use Rattle.std.proofs.Common.{◌≡◌, ℕ, ◌≤◌, true, List, ◌++◌, reverse, length, Some, Ok, sym, ap, ◌∙◌, append_assoc, arith}
use Rattle.std.proofs.lemmas.List.{length-reverse}
use Rattle.std.proofs.lemmas.Bool.{and_from, le-leb}
use Rattle.parts.specs.Ranges.{bar_ranges, bolt_ranges}
use Rattle.limits.specs.declared.rated.Rated.{Rated}
use Rattle.reading.specs.Reads.{Accepted}
use Rattle.reading.proofs.OneAnswer.{one_answer}
use Rattle.sections.specs.Texts.{sections_text, loads_in}
use Rattle.sheet.specs.Account.{Account}
use Rattle.sheet.specs.Details.{Details, Sound}
use Rattle.writing.specs.Pages.{Paged}
use Rattle.writing.specs.Texts.{verdict_text, chain_text}
use Rattle.archive.specs.Again.{PagesReadAgain, verdict_place}
use Rattle.archive.proofs.Reloaded.{seven_again, good_again, borne_again}
use Rattle.archive.proofs.Renumbered.{put_again}
use Rattle.archive.proofs.Retold.{retold}

bar_sound : (d : Details) → Sound d → bar_ranges d.bar ≡ true
bar_sound d s =
    and_from _ _ (and_from _ _ (le-leb _ _ s.width.0) (le-leb _ _ s.width.1))
    (and_from _ _ (and_from _ _ (le-leb _ _ s.thickness.0) (le-leb _ _ s.thickness.1)) (and_from _ _ (le-leb _ _ s.edge.0) (le-leb _ _ s.edge.1)))

bolt_sound : (d : Details) → Sound d → bolt_ranges d.bolt ≡ true
bolt_sound d s =
    and_from _ _ (and_from _ _ (le-leb _ _ s.stress.0) (le-leb _ _ s.stress.1)) (and_from _ _ (le-leb _ _ s.planes.0) (le-leb _ _ s.planes.1))

-- a page is a text that reading accepts
page_accepted : (states : Details → List Rated) (a : Account) (t rest : List ℕ) (p : Paged states a t) → length (t ++ rest) ≤ 4096 → Accepted (t ++ rest) (verdict_place p) a
page_accepted states a t rest p short =
    let d = p.details in
    let order = p.page.order in
    let o = p.page.ordered in
    let after = verdict_text p.page.judgment ++ chain_text (reverse p.page.chain) in
    let sections = sections_text d.bar d.bolt d.holes (loads_in order d.loads) in
    let told = retold d.bar d.bolt d.holes (loads_in order d.loads) in
    let holes = put_again d p.sound in
    let borne = borne_again d p.sound order o in
    record {
      short = short;
      bar = d.bar;
      bolt = d.bolt;
      holes = reverse d.holes;
      loads = reverse (loads_in order d.loads);
      rest = after ++ rest;
      seven = seven_again d p.sound order o;
      lawful = (bar_sound d p.sound, bolt_sound d p.sound, omega (arith, length-reverse d.holes, p.sound.few), holes.0, good_again d p.sound order o);
      is = ap (λ (s : List ℕ). s ++ rest) p.page.is ∙ append_assoc sections after rest ∙ ap (λ (s : List ℕ). s ++ (after ++ rest)) (sym told);
      took = ap length (sym told);
      account = p.holds ∙ (λ i. record { bar = Some d.bar; bolt = Some d.bolt; holes = sym holes.1 i; loads = sym borne i });
    }

pub pages_read_again : PagesReadAgain
pages_read_again states a old new t rest r p short reads =
    one_answer (t ++ rest) old r (Ok (verdict_place p)) new a reads (page_accepted states a t rest p short)
