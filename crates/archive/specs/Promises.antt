-- What every judgment of a run promises, in the words of the list of calls itself.
use Rattle.std.specs.Prelude.{◌≡◌, ℕ, ◌<◌, true, List, reverse, length, pos, Some, Ok, Err, vec_items, Result, Vec, slice_index_or}
use Rattle.std.specs.declared.alloc.Global.{Global}
use Rattle.std.specs.List.{ContainsAt as Has}
use Rattle.parts.specs.declared.bar.Bar.{Bar as SteelBar}
use Rattle.parts.specs.declared.bolt.Bolt.{Bolt as SteelBolt}
use Rattle.parts.specs.declared.hole.Hole.{Hole}
use Rattle.parts.specs.declared.load.LoadKind.{LoadKind}
use Rattle.parts.specs.Holes.{before}
use Rattle.parts.specs.LoadKinds.{kind_number}
use Rattle.sheet.specs.Calls.{bar_of, bolt_of}
use Rattle.sheet.specs.Details.{Details}
use Rattle.sheet.specs.Law.{pairs}
use Rattle.chains.specs.Slips.{told}
use Rattle.limits.specs.declared.rated.Rated.{Rated}
use Rattle.judging.specs.Judging.{Judged}
use Rattle.judging.specs.Rows.{rows_of}
use Rattle.judging.specs.declared.judgment.Judgment.{Judgment}
use Rattle.sections.specs.Texts.{LoadOrder}
use Rattle.writing.specs.Texts.{page_text}
use Rattle.archive.specs.Lists.{call_at}
use Rattle.archive.specs.Replays.{answer_at}
use Rattle.archive.specs.Standing.{AcceptedAt, Stood, LastLoad}
use Rattle.archive.specs.Answer.{Answer}
use Rattle.archive.specs.declared.call.Reply.TheVariants.{Accepted, Judged as JudgedReply, Page as PageReply}
use Rattle.archive.specs.declared.call.Call.{Call}
use Rattle.archive.specs.declared.call.Call.TheVariants.{Bar, Bolt}
use Rattle.archive.specs.declared.call.Halt.{Halt}

-- the call at i is an accepted bar of this
abbrev pub Barred : List Call → SteelBar → ℕ → Type 0
Barred calls b i = (w t s e : ℕ) × (call_at calls i ≡ Bar w t s e) × (bar_of w t s e ≡ Some b) × AcceptedAt calls i

-- the bar last accepted before k
abbrev pub LastBar : List Call → ℕ → SteelBar → Type 0
LastBar calls k b = (i : ℕ) × (i < k) × Barred calls b i × ((j : ℕ) (c : SteelBar) → i < j → j < k → Barred calls c j → ⊥)

-- the call at i is an accepted bolt of this
abbrev pub Bolted : List Call → SteelBolt → ℕ → Type 0
Bolted calls b i = (s t p : ℕ) × (call_at calls i ≡ Bolt s t p) × (bolt_of s t p ≡ Some b) × AcceptedAt calls i

-- the bolt last accepted before k
abbrev pub LastBolt : List Call → ℕ → SteelBolt → Type 0
LastBolt calls k b = (i : ℕ) × (i < k) × Bolted calls b i × ((j : ℕ) (c : SteelBolt) → i < j → j < k → Bolted calls c j → ⊥)

-- the judgment j at the place k, with this chain, last hole first: it is the rules' own for the bar and the bolt last accepted,
-- the holes that some put accepted and no later accepted take removed, in number order, and the loads last accepted
pub record Promised (states : Details → List Rated) (calls : List Call) (k : ℕ) (d : Details) (j : Judgment) (chain : List ℕ) : Type 0 where
  pub bar : LastBar calls k d.bar
  pub bolt : LastBolt calls k d.bolt
  pub stand : (h : Hole) → (Has d.holes h → Stood calls k h) × (Stood calls k h → Has d.holes h)
  pub order : pairs before d.holes ≡ true
  pub seven : length d.loads ≡ 7
  pub loads : (kind : LoadKind) → LastLoad calls k kind (slice_index_or d.loads (kind_number kind) (pos 0))
  -- chain, rows, limit states, least row and kind: every promise of a judgment
  pub judged : Judged (rows_of d.loads) (states d) d.bar.width d.holes j chain

-- an answer that holds a judgment, judge's or a page's, keeps the promises
abbrev pub Keeps : (Details → List Rated) → List Call → ℕ → Answer → Type 0
Keeps states calls k (Ok (JudgedReply j slip)) =
    (d : Details) × (chain : List ℕ) × (told slip ≡ reverse chain) × Promised states calls k d j chain
Keeps states calls k (Ok (PageReply bytes)) =
    (d : Details) × (j : Judgment) × (chain : List ℕ) × (order : List LoadKind)
    × LoadOrder order × (vec_items bytes ≡ page_text order d j (reverse chain)) × Promised states calls k d j chain
Keeps states calls k (Ok Accepted) = Unit {0}
Keeps states calls k (Err why) = Unit {0}

-- every judgment of the run keeps the promises
abbrev pub AllKept : (Details → List Rated) → List Call → List Answer → Type 0
AllKept states calls answers = (k : ℕ) → k < length calls → Keeps states calls k (answer_at answers k)

-- what the answers of the call replay promise
abbrev pub Promises : (Details → List Rated) → List Call → Result (Vec Answer Global) Halt → Type 0
Promises states calls (Ok answers) = AllKept states calls (vec_items answers)
Promises states calls (Err why) = Unit {0}
