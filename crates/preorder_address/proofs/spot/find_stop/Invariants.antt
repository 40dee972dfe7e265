use Rattle.std.proofs.Common.{◌+◌, ◌*◌, ◌-◌, length}
use Rattle.slt_grammar.specs.Segments.{node_tour}
use Rattle.preorder_address.specs.Marks.{AreMarks}
use Rattle.preorder_address.proofs.SpotFinding.{Weighs}
use Rattle.preorder_address.proofs.spot.find_stop.Given as goal

abbrev pub invariant-stops : goal.invariant-stops
invariant-stops g l = record {
  weighs : Weighs l.names l.grammar l.fn.by l.fn.wanted.rule l.fn.wanted.number l.walk l.passed l.initial.steps l.steps;
  marks : AreMarks l.names l.grammar.rules l.marks;
}

abbrev pub decreases-stops : goal.decreases-stops
decreases-stops g l = (l.initial.steps + 2 * length (node_tour l.grammar.rules l.fn.wanted.rule)) - l.steps
