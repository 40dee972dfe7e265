use Rattle.std.proofs.Common.{length}
use Rattle.value_cursor.specs.Stops.{stops_of}
use Rattle.value_cursor.proofs.SegmentStarts.{Enters}
use Rattle.value_cursor.proofs.entering.segment_start.Given as goal

abbrev pub invariant-loop-params : goal.invariant-loop-params
invariant-loop-params g l = Enters l.grammar.rules l.rule l.part l.walk l.params

abbrev pub decreases-loop-params : goal.decreases-loop-params
decreases-loop-params g l = length (stops_of l.grammar.rules (record { rule = l.rule; walk = l.walk }))
