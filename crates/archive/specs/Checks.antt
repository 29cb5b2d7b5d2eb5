-- What checking a text answers: its page, or the line that says what is wrong and where.
use Rattle.std.specs.Prelude.{◌≡◌, ℕ, ◌+◌, ◌<◌, ◌≤◌, ◌⊎◌, List, [], ◌∷◌, ◌++◌, length, drop, Some, None, Ok, Err, codes, decimal, Result}
use Rattle.sheet.specs.Account.{Account}
use Rattle.sheet.specs.Calls.{joint_fault}
use Rattle.sheet.specs.Kept.{closed_account}
use Rattle.sheet.specs.declared.sheet.closed.Closed.{Closed}
use Rattle.limits.specs.Norm.{norm_ratings}
use Rattle.reading.specs.Reads.{Accepted, Refused}
use Rattle.text.specs.Words.{line}
use Rattle.writing.specs.Pages.{Paged}
use Rattle.archive.specs.Faults.{check_number, check_line}
use Rattle.archive.specs.declared.fault.CheckFault.{CheckFault}
use Rattle.archive.specs.declared.fault.CheckFault.TheVariants.{Read, Trailing, Sheet}
use Rattle.archive.specs.declared.fault.NoRoom.{NoRoom}

-- what is wrong: with a line of the four sections; else with what follows them; else with the sheet
abbrev pub Wrong : List ℕ → CheckFault → Type 0
Wrong text (Read e) = Refused text e
Wrong text (Trailing l) =
    (n : ℕ) × (a : Account) × Accepted text n a × (n < length text) × (l ≡ length a.holes + 14)
Wrong text (Sheet f) = (a : Account) × Accepted text (length text) a × (joint_fault a ≡ Some f)

-- the line that is written then
abbrev pub refused_line : CheckFault → List ℕ
refused_line f = line (codes "refused" ∷ decimal (check_number f) ∷ decimal (check_line f) ∷ [])

-- t is the page of the sheet that the text describes, by the norm's limit states; or the refused line
abbrev pub Answers : List ℕ → List ℕ → Type 0
Answers text t =
    ((a : Account) × Accepted text (length text) a × Paged norm_ratings a t)
    ⊎ ((f : CheckFault) × Wrong text f × (t ≡ refused_line f))

-- the answer at the front of the buffer, whose other bytes are left; or nothing, where it does not fit
abbrev pub Checks : List ℕ → List ℕ → Result ℕ NoRoom → List ℕ → Type 0
Checks text was (Ok n) now = (t : List ℕ) × Answers text t × (n ≡ length t) × (n ≤ length was) × (now ≡ t ++ drop n was)
Checks text was (Err e) now = (t : List ℕ) × Answers text t × (length was < length t) × (now ≡ was)

-- inner: the closed sheet that a text describes, or what is wrong with it
abbrev pub Sheets : List ℕ → Result Closed CheckFault → Type 0
Sheets text (Ok c) = Accepted text (length text) (closed_account c) × (joint_fault (closed_account c) ≡ None)
Sheets text (Err f) = Wrong text f

-- inner: a text laid at the front of the buffer, or not
abbrev pub Lays : List ℕ → List ℕ → Result ℕ NoRoom → List ℕ → Type 0
Lays t was (Ok n) now = (n ≡ length t) × (n ≤ length was) × (now ≡ t ++ drop n was)
Lays t was (Err e) now = (length was < length t) × (now ≡ was)
