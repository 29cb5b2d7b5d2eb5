use Rattle.std.proofs.Common.{[]}
use Rattle.text.specs.Words.{header}
use Rattle.text.proofs.Chained.{◌then◌, same}
use Rattle.text.proofs.Spelled.{one_spelled, more_spelled}
use Rattle.text.proofs.draft.Draft.header.Goals as goal

pub returns : goal.returns
unfolding header
returns c = same (more_spelled _ _ []) (c.number.ensures then c.byte.ensures then same (one_spelled _) (c.word.ensures then c.byte-2.ensures))
