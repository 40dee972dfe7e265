use Rattle.std.proofs.Common.{length}
use Rattle.preorder_address.specs.Descents.{levels_of}
use Rattle.preorder_address.proofs.ParentWays.{Parenting}
use Rattle.preorder_address.proofs.parent.find_parent.Given as goal

abbrev pub invariant-loop-level : goal.invariant-loop-level
invariant-loop-level g l = Parenting l.grammar l.number l.descent l.frame.before l.frame.args l.entry l.initial.steps l.steps

abbrev pub decreases-loop-level : goal.decreases-loop-level
decreases-loop-level g l = length (levels_of l.grammar.rules l.descent)
