use Rattle.std.proofs.Common.{◌+◌, ◌*◌, ◌-◌}
use Rattle.slt_grammar.specs.Grammars.{whole}
use Rattle.slt_grammar.specs.Keyed.{rules_of}
use Rattle.preorder_address.proofs.Rising.{Rising}
use Rattle.preorder_address.proofs.parent.first_child_above.Given as goal

abbrev pub invariant-loop-edge : goal.invariant-loop-edge
invariant-loop-edge g l = Rising l.grammar.rules l.fn.key l.at l.initial.steps l.steps

abbrev pub decreases-loop-edge : goal.decreases-loop-edge
decreases-loop-edge g l = (l.initial.steps + 2 * whole (rules_of l.grammar.rules)) - l.steps
