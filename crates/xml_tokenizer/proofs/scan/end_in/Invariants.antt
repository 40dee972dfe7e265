use Rattle.std.proofs.Common.{length}
use Rattle.xml_tokenizer.specs.Ends.{Came}
use Rattle.xml_tokenizer.proofs.scan.end_in.Given as goal

abbrev pub invariant-loop-left : goal.invariant-loop-left
invariant-loop-left l = Came l.fn.from l.bytes l.scan l.rest

abbrev pub decreases-loop-left : goal.decreases-loop-left
decreases-loop-left l = length l.rest
