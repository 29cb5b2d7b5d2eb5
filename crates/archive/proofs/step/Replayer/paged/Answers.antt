use Rattle.std.proofs.Common.{◌≡◌, length, take, ap, ◌∙◌, rules}
use Rattle.std.proofs.lemmas.List.{take_at}
use Rattle.archive.proofs.Rulings.{gives_page}
use Rattle.archive.proofs.step.Replayer.paged.Goals as goal

pub returns : goal.returns
returns g c =
    let long : length c.deref_mut.result.now ≡ c.args.bytes.len = search rules in
    let kept : length c.page.new.out ≡ c.args.bytes.len = search rules in
    gives_page _ _ _ c.in_ok-count.count c.deref_mut.result.now c.page.new.out _ long c.in_ok-count.ensures
    (c.truncate.ensures.items ∙ ap (take c.in_ok-count.count) (take_at c.page.new.out _ _ kept))
