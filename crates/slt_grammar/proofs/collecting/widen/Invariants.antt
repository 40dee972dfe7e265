use Rattle.std.proofs.Common.{◌≤◌, ◌-◌, length}
use Rattle.slt_grammar.proofs.collecting.widen.Given as goal

abbrev pub invariant-loop-stack : goal.invariant-loop-stack
invariant-loop-stack l = length l.initial.stack.items ≤ length l.stack.items

abbrev pub decreases-loop-stack : goal.decreases-loop-stack
decreases-loop-stack l = l.len - length l.stack.items
