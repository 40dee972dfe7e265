use Rattle.std.proofs.Common.{◌+◌, ◌*◌, ◌-◌, length}
use Rattle.slt_grammar.specs.Segments.{node_tour}
use Rattle.segment_counts.proofs.Tallying.{Tallied}
use Rattle.segment_counts.proofs.counting.tally_rule.Given as goal

abbrev pub invariant-stops : goal.invariant-stops
invariant-stops g l = Tallied l.names l.grammar.rules l.rule l.walk l.tallies l.initial.steps l.steps

abbrev pub decreases-stops : goal.decreases-stops
decreases-stops g l = (l.initial.steps + 2 * length (node_tour l.grammar.rules l.rule)) - l.steps
