use Rattle.std.proofs.Common.{length}
use Rattle.xml_nodes.specs.Sending.{seen}
use Rattle.xml_nodes.proofs.Escaping.{IsSending}
use Rattle.xml_nodes.proofs.output.Output.send_escaped.Given as goal

abbrev pub invariant-loop-plain : goal.invariant-loop-plain
invariant-loop-plain g l = IsSending l.quoted l.bytes l.rest (seen g.K.Sink l.fn.self) (seen g.K.Sink l.self)

abbrev pub decreases-loop-plain : goal.decreases-loop-plain
decreases-loop-plain g l = length l.rest
