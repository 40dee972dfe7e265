use Rattle.std.proofs.Common.{◌-◌, length}
use Rattle.xml_nodes.proofs.LongestNames.{IsNameFront}
use Rattle.xml_nodes.proofs.names.name_length.Given as goal

abbrev pub invariant-loop-length : goal.invariant-loop-length
invariant-loop-length l = IsNameFront l.bytes l.length

abbrev pub decreases-loop-length : goal.decreases-loop-length
decreases-loop-length l = length l.bytes - l.length
