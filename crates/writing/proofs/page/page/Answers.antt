use Rattle.std.proofs.Common.{◌≡◌, ℕ, List, Some, None, Option, ok_or}
use Rattle.limits.specs.declared.rated.Rated.{Rated}
use Rattle.sheet.specs.Account.{Account}
use Rattle.sheet.specs.Calls.{joint_fault}
use Rattle.sheet.specs.Details.{Details, Sound, whole}
use Rattle.text.specs.Drafts.{written, Laid}
use Rattle.text.specs.declared.draft.Draft.{Draft}
use Rattle.writing.specs.Pages.{Drafted, Pages}
use Rattle.writing.specs.declared.fault.PageFault.TheVariants.{NoRoom}
use Rattle.writing.proofs.page.page.Goals as goal

-- a draft of the page, laid into the buffer or not
laid : (states : Details → List Rated) (a : Account) (d : Details) (draft : Draft) (was now : List ℕ) (r : Option ℕ)
    → (joint_fault a ≡ None) × (a ≡ whole d) × Sound d → Drafted states d draft → Laid (written draft) was r now
    → Pages states a was (ok_or r NoRoom) now
laid states a d draft was now None (judged, holds, sound) page (over, kept) =
    (written draft, record { judged = judged; details = d; holds = holds; sound = sound; page = page }, over, kept)
laid states a d draft was now (Some n) (judged, holds, sound) page (long, fits, is) =
    (written draft, record { judged = judged; details = d; holds = holds; sound = sound; page = page }, long, fits, is)

pub returns : goal.returns
returns g c =
    rw (c.ok_or.ensures.value, ← c.sheet.ensures) (laid _ _ _ c.drafted.result _ _ c.copy_to.result c.in_ok-joint.ensures c.drafted.ensures c.copy_to.ensures)
