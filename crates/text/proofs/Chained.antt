-- One text after another on a draft.
use Rattle.std.proofs.Common.{◌≡◌, ℕ, ◌≤◌, List, [], ◌++◌, length, take, sym, ap, ◌∙◌, subst}
use Rattle.std.proofs.lemmas.List.{append-nil, take_all}
use Rattle.text.proofs.Capacity.{capacity}
use Rattle.text.specs.Drafts.{written, Adds}
use Rattle.text.specs.declared.draft.Draft.{Draft}
use Rattle.text.proofs.Grown.{grown}

infixr 5 ◌then◌
pub ◌then◌ : {was mid now : Draft} {a b : List ℕ} → Adds was a mid → Adds mid b now → Adds was (a ++ b) now
◌then◌ {was} {mid} {now} {a} {b} p q = record { is = grown capacity (written was) (written mid) (written now) a b p.is q.is }

pub same : {was now : Draft} {a b : List ℕ} → a ≡ b → Adds was a now → Adds was b now
same {was} {now} e p = subst (λ l. Adds was l now) e p

-- nothing is added
pub none_added : (d : Draft) → Adds d [] d
none_added d = record { is = sym (ap (take capacity) (append-nil (written d)) ∙ take_all capacity (written d) d.room) }

-- a text that has room stands on an empty draft whole
pub whole_text : {was now : Draft} {a : List ℕ} → written was ≡ [] → length a ≤ capacity → Adds was a now → written now ≡ a
whole_text {was} {now} {a} e h p = p.is ∙ ap (λ l. take capacity (l ++ a)) e ∙ take_all capacity a h
