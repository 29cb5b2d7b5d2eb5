-- A page that was written is read again.
use Rattle.std.specs.Prelude.{◌≡◌, ℕ, ◌≤◌, List, ◌++◌, length, Ok, Result}
use Rattle.sheet.specs.Account.{Account}
use Rattle.sheet.specs.Details.{Details}
use Rattle.limits.specs.declared.rated.Rated.{Rated}
use Rattle.reading.specs.Reads.{Reads}
use Rattle.reading.specs.declared.fault.ReadFault.{ReadFault}
use Rattle.sections.specs.Texts.{sections_text, loads_in}
use Rattle.writing.specs.Pages.{Paged}

-- where the verdict of a page begins: after its first four sections
abbrev pub verdict_place : {states : Details → List Rated} {a : Account} {t : List ℕ} → Paged states a t → ℕ
verdict_place p =
    length (sections_text p.details.bar p.details.bolt p.details.holes (loads_in p.page.order p.details.loads))

-- whatever follows it, a page reads as the sheet that it is of, up to its verdict: bar, bolt, holes and loads come back
abbrev pub PagesReadAgain : Type 0
PagesReadAgain =
    (states : Details → List Rated) (a old new : Account) (t rest : List ℕ) (r : Result ℕ ReadFault)
    → (p : Paged states a t) → length (t ++ rest) ≤ 4096
    → Reads (t ++ rest) old r new → (r ≡ Ok (verdict_place p)) × (new ≡ a)
