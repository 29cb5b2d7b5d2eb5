-- What writing a page answers.
use Rattle.std.specs.Prelude.{◌≡◌, ℕ, ◌<◌, ◌≤◌, List, ◌++◌, reverse, length, drop, Some, None, Ok, Err, Result}
use Rattle.parts.specs.declared.load.LoadKind.{LoadKind}
use Rattle.sheet.specs.Account.{Account}
use Rattle.sheet.specs.Calls.{joint_fault}
use Rattle.sheet.specs.Details.{Details, Sound, whole}
use Rattle.limits.specs.declared.rated.Rated.{Rated}
use Rattle.judging.specs.Judging.{Sole}
use Rattle.judging.specs.declared.judgment.Judgment.{Judgment}
use Rattle.sections.specs.Texts.{LoadOrder}
use Rattle.text.specs.Drafts.{written}
use Rattle.text.specs.declared.draft.Draft.{Draft}
use Rattle.writing.specs.Texts.{page_text}
use Rattle.writing.specs.declared.fault.PageFault.{PageFault}
use Rattle.writing.specs.declared.fault.PageFault.TheVariants.{Sheet, NoRoom}

-- t is a page of the joint: what it holds, the one judgment by the bank, and the one least chain; the order of its load lines is left open
pub record PageOf (states : Details → List Rated) (d : Details) (t : List ℕ) : Type 0 where
  pub order : List LoadKind
  pub ordered : LoadOrder order
  pub judgment : Judgment
  -- from its last hole backwards
  pub chain : List ℕ
  pub sole : Sole states d judgment chain
  pub is : t ≡ page_text order d judgment (reverse chain)

-- inner: a draft that holds such a page
abbrev pub Drafted : (Details → List Rated) → Details → Draft → Type 0
Drafted states d draft = PageOf states d (written draft)

-- a sheet with this account can be judged, and t is its page
pub record Paged (states : Details → List Rated) (a : Account) (t : List ℕ) : Type 0 where
  pub judged : joint_fault a ≡ None
  pub details : Details
  pub holds : a ≡ whole details
  pub sound : Sound details
  pub page : PageOf states details t

-- refused as the table says, with the buffer as it was; or the page at its front, its other bytes left
abbrev pub Pages : (Details → List Rated) → Account → List ℕ → Result ℕ PageFault → List ℕ → Type 0
Pages states a was (Ok n) now = (t : List ℕ) × Paged states a t × (n ≡ length t) × (n ≤ length was) × (now ≡ t ++ drop n was)
Pages states a was (Err (Sheet f)) now = (joint_fault a ≡ Some f) × (now ≡ was)
Pages states a was (Err NoRoom) now = (t : List ℕ) × Paged states a t × (length was < length t) × (now ≡ was)
