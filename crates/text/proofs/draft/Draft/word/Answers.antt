use Rattle.std.proofs.Common.{◌∙◌, take, arith}
use Rattle.std.proofs.lemmas.List.{length-take-le}
use Rattle.text.proofs.Capacity.{capacity}
use Rattle.text.proofs.Grown.{extended, fitted}
use Rattle.text.specs.Drafts.{written}
use Rattle.text.proofs.draft.Draft.word.Goals as goal

pub returns : goal.returns
returns c =
    let was = written c.args.self.now in
    let w = c.args.w.now in
    let n = c.min-n.result in
    let ext = c.try_extend_from_slice in
    let long = length-take-le n w (omega arith) in
    record {
      is = extended ext.result was _ (take n w) (ext.ensures.variant.1 (omega (arith, long))) ext.ensures.ok ∙ fitted capacity n was w (omega arith) (omega arith);
    }
