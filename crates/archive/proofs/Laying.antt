-- A text that is accepted, and an answer that is laid into the buffer.
use Rattle.std.proofs.Common.{◌≡◌, ℕ, ◌^◌, ◌<◌, ◌≤◌, List, [], ◌∷◌, length, Some, None, Ok, Err, codes, decimal, Result, MatchResult, is_ok, true≢false, sym, ap, ◌∙◌, subst, inl, arith, length-append}
use Rattle.sheet.specs.Account.{Account}
use Rattle.sheet.specs.Calls.{joint_fault}
use Rattle.limits.specs.Norm.{norm_ratings}
use Rattle.reading.specs.Beginnings.{loading, written}
use Rattle.reading.specs.Reads.{Accepted}
use Rattle.text.proofs.Capacity.{capacity}
use Rattle.text.proofs.Lengths.{decimal_long, line_one, line_more}
use Rattle.writing.specs.Pages.{Pages}
use Rattle.writing.specs.declared.fault.PageFault.{PageFault}
use Rattle.writing.specs.declared.fault.PageFault.TheVariants.{Sheet, NoRoom as NoPageRoom}
use Rattle.archive.specs.Checks.{Answers, Checks, Lays, refused_line}
use Rattle.archive.specs.Faults.{check_number, check_line}
use Rattle.archive.specs.declared.fault.CheckFault.{CheckFault}
use Rattle.archive.specs.declared.fault.NoRoom.{NoRoom}

-- no more is taken than there is
pub accepted_within : (text : List ℕ) (n : ℕ) (a : Account) → Accepted text n a → n ≤ length text
accepted_within text n a ok =
    omega (arith, ok.took, ap length ok.is ∙ length-append (written (loading ok.bar ok.bolt ok.holes ok.loads)) ok.rest)

-- a refused line has room on a draft
pub refused_room : (f : CheckFault) → check_number f < 2 ^ 64 → check_line f < 2 ^ 64 → length (refused_line f) ≤ capacity
refused_room f p q =
    omega (
      arith,
      line_more (codes "refused") (decimal (check_number f)) (decimal (check_line f) ∷ []),
      line_more (decimal (check_number f)) (decimal (check_line f)) [],
      line_one (decimal (check_line f)),
      decimal_long (check_number f) p,
      decimal_long (check_line f) q,
    )

-- an answer that is laid is what a check says
pub laid_check : (text was now t : List ℕ) (r : Result ℕ NoRoom) → Answers text t → Lays t was r now → Checks text was r now
laid_check text was now t (Ok n) a l = (t, a, l.0, l.1, l.2)
laid_check text was now t (Err e) a l = (t, a, l.0, l.1)

-- what is said of a page, where every refusal is told as want of room: a sheet that can be judged is refused for that alone
pub page_check : (text was now : List ℕ) (a : Account) (r : Result ℕ PageFault) (s : Result ℕ NoRoom) (Q : PageFault → Type 0)
    → Accepted text (length text) a → joint_fault a ≡ None → Pages norm_ratings a was r now
    → MatchResult r (λ n. s ≡ Ok n) Q → is_ok s ≡ is_ok r → Checks text was s now
page_check text was now a (Ok n) s Q ok free (t, paged, long, fits, laid) is same = subst (λ x. Checks text was x now) (sym is) (t, inl (a, ok, paged), long, fits, laid)
page_check text was now a (Err f) (Ok n) Q ok free p is same = absurd (true≢false same)
page_check text was now a (Err (Sheet f)) (Err e) Q ok free p is same = let never : Some f ≡ None = sym p.0 ∙ free in absurd (grind (arith, never))
page_check text was now a (Err NoPageRoom) (Err e) Q ok free (t, paged, over, kept) is same = (t, inl (a, ok, paged), over, kept)
