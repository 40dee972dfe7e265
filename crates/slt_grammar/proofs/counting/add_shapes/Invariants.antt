use Rattle.slt_grammar.proofs.Dropped.{IsSummed}
use Rattle.slt_grammar.proofs.counting.add_shapes.Given as goal

abbrev pub invariant-loop-i : goal.invariant-loop-i
invariant-loop-i l = IsSummed l.order.order l.shapes l.initial.calls l.calls l.i l.params
