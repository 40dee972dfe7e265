use Rattle.std.proofs.Common.{length}
use Rattle.preorder_address.specs.Descents.{levels_of}
use Rattle.preorder_address.proofs.Heading.{Heading}
use Rattle.preorder_address.proofs.nodes.label_of.Given as goal

abbrev pub invariant-loop-level : goal.invariant-loop-level
invariant-loop-level g l = Heading l.grammar.rules l.initial.descent l.descent l.last l.initial.steps l.steps

abbrev pub decreases-loop-level : goal.decreases-loop-level
decreases-loop-level g l = length (levels_of l.grammar.rules l.descent)
