-- What a call answers: a reply, or why there is none.
use Rattle.std.specs.Prelude.{Result}
use Rattle.writing.specs.declared.fault.PageFault.{PageFault}
use Rattle.archive.specs.declared.call.Reply.{Reply}

abbrev pub Answer : Type 0
Answer = Result Reply PageFault
