use Rattle.std.proofs.Common.{◌≤◌, vec_capacity}
use Rattle.slt_grammar.proofs.Shapings.{AreShaped}
use Rattle.slt_grammar.proofs.shaping.read_body.Given as goal

abbrev pub invariant-loop-i : goal.invariant-loop-i
invariant-loop-i l = record {
  shaped : AreShaped l.order.order l.ranks l.key l.body l.shapes.items l.i;
  capacity : vec_capacity l.fn.shapes ≤ vec_capacity l.shapes;
}
