use Rattle.std.proofs.Common.{rules}
use Rattle.reading.proofs.OneAnswer.{one_answer}
use Rattle.reading.proofs.Whole.{part, accepted, refused}
use Rattle.reading.proofs.read.read.Goals as goal

pub returns-then-text-gt-LONGEST : goal.returns-then-text-gt-LONGEST
returns-then-text-gt-LONGEST c = record { answer = search rules; once = one_answer }

pub returns-in_err-sections : goal.returns-in_err-sections
returns-in_err-sections c = record {
  answer = refused c.new-reader.ensures _ _ c.in_err-sections.ensures c.from_residual.ensures.1;
  once = one_answer;
}

pub overflow_sub-result : goal.overflow_sub-result
overflow_sub-result c = part c.new-reader.ensures c.in_ok-sections.ensures c.rest.ensures

pub returns : goal.returns
returns c = record {
  answer = accepted c.new-reader.ensures c.in_ok-sections.ensures c.rest.ensures;
  once = one_answer;
}
