-- What a whole page says.
use Rattle.std.specs.Prelude.{ℕ, List, [], ◌∷◌, ◌++◌, length, codes, decimal}
use Rattle.std.specs.List.{flat_map}
use Rattle.std.specs.Fmt.{signed_decimal}
use Rattle.parts.specs.declared.load.LoadKind.{LoadKind}
use Rattle.sheet.specs.Details.{Details}
use Rattle.judging.specs.Kinds.{verdict_number}
use Rattle.judging.specs.declared.judgment.Judgment.{Judgment}
use Rattle.sections.specs.Texts.{sections_text, loads_in}
use Rattle.text.specs.Words.{line, header}

-- kind, row, limit state, greatest row, least strength, net width, least row
abbrev pub verdict_words : Judgment → List (List ℕ)
verdict_words j =
    decimal (verdict_number j.kind) ∷ decimal j.row ∷ decimal j.state ∷ signed_decimal j.greatest.0
    ∷ signed_decimal j.strength.0 ∷ signed_decimal j.net_width.0 ∷ signed_decimal j.least.0 ∷ []

abbrev pub verdict_text : Judgment → List ℕ
verdict_text j = header 1 (codes "verdict") ++ line (verdict_words j)

abbrev pub chain_line : ℕ → List ℕ
chain_line n = line (decimal n ∷ [])

-- the numbers of the chain's holes, first hole first
abbrev pub chain_text : List ℕ → List ℕ
chain_text ns = header (length ns) (codes "chain") ++ flat_map chain_line ns

-- the page of a joint with this judgment and chain, its load lines in this order
abbrev pub page_text : List LoadKind → Details → Judgment → List ℕ → List ℕ
page_text order d j ns =
    sections_text d.bar d.bolt d.holes (loads_in order d.loads) ++ (verdict_text j ++ chain_text ns)
