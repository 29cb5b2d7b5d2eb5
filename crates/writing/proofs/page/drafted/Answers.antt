use Rattle.std.proofs.Common.{ℕ, ◌≤◌, List, reverse, length, ap, ◌∙◌, subst, arith}
use Rattle.std.specs.List.{AllByRecursion}
use Rattle.std.proofs.ByRecursion.{All-weaker}
use Rattle.chains.proofs.Facts.{told_few, told_numbers}
use Rattle.sheet.specs.Details.{details}
use Rattle.sheet.proofs.Joints.{joint_sound}
use Rattle.judging.proofs.Told.{tells_bounded, tells_named}
use Rattle.sections.specs.Texts.{bar_text, bolt_text, holes_text, loads_text, loads_in}
use Rattle.text.proofs.Chained.{◌then◌, same, whole_text}
use Rattle.writing.specs.Texts.{chain_text}
use Rattle.writing.proofs.Room.{page_room}
use Rattle.writing.proofs.page.drafted.Goals as goal

pub returns : goal.returns
returns g c =
    let j = c.args.joint in
    let d = details j in
    let sound = joint_sound j in
    let tells = c.judge_joint-judgment.ensures in
    let judgment = c.judge_joint-judgment.result in
    let loads = c.write_loads.ensures in
    let bounded = tells_bounded tells sound (g.met.B.Bank.lawful c.args.bank.now d sound) in
    let added =
    (same (ap bar_text c.bar.ensures) c.write_bar.ensures then same (ap bolt_text c.bolt.ensures) c.write_bolt.ensures
    then same (ap holes_text c.holes.ensures) c.write_holes.ensures
    then same (ap (λ ns. loads_text (loads_in loads.0 ns)) c.loads.ensures) loads.2)
    then c.write_verdict.ensures then same (ap chain_text (c.numbers_on.ensures ∙ tells.reads)) c.write_chain.ensures in
    let named = tells_named tells in
    let few = subst (λ (ns : List ℕ). length ns ≤ 32) tells.reads (told_few d sound _ _ _ named) in
    let all =
    All-weaker (λ m. (1 ≤ m) × (m ≤ length d.holes)) (λ m. m ≤ 32) (λ m h. omega (arith, h, sound.few)) _
    (subst (AllByRecursion (λ m. (1 ≤ m) × (m ≤ length d.holes))) tells.reads (told_numbers d sound _ _ _ named)) in
    record {
      order = loads.0;
      ordered = loads.1;
      judgment = judgment;
      chain = tells.chain;
      sole = tells.sole;
      is = whole_text c.new-draft.ensures (page_room loads.0 d judgment (reverse tells.chain) loads.1 sound bounded few all) added;
    }
