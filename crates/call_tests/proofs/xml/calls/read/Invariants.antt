use Rattle.std.proofs.Common.{◌≡◌, ◌+◌, length}
use Rattle.xml_nodes.specs.StateOf.{state_of}
use Rattle.xml_nodes.specs.Taking.{built, IsReady}
use Rattle.xml_profile.specs.Reading.{count_of}
use Rattle.call_tests.proofs.xml.calls.read.Given as goal

abbrev pub invariant-loop-rest : goal.invariant-loop-rest
invariant-loop-rest g l = record {
  ready : IsReady (state_of l.reader.machine) (built g.B.Builder l.builder);
  count : count_of l.reader + length l.rest ≡ length l.bytes;
}

abbrev pub decreases-loop-rest : goal.decreases-loop-rest
decreases-loop-rest g l = length l.rest
