use Rattle.std.proofs.Common.{length, ◌-◌}
use Rattle.xml_nodes.specs.StateOf.{state_of}
use Rattle.xml_nodes.proofs.OuterRuns.{IsOuterRun}
use Rattle.xml_nodes.proofs.machine.Machine.outer_run.Given as goal

abbrev pub invariant-loop-at : goal.invariant-loop-at
invariant-loop-at l = IsOuterRun (state_of l.fn.self) l.text l.at (state_of l.self)

abbrev pub decreases-loop-at : goal.decreases-loop-at
decreases-loop-at l = length l.text - l.at
