use Rattle.std.proofs.Common.{length}
use Rattle.preorder_address.specs.Descents.{levels_of}
use Rattle.preorder_address.specs.Weighing.{weight_of}
use Rattle.preorder_address.proofs.Sited.{Siting}
use Rattle.preorder_address.proofs.site.site_of.Given as goal

abbrev pub invariant-loop-level : goal.invariant-loop-level
invariant-loop-level g l = Siting l.grammar (weight_of l.weigher) l.number l.descent l.before l.kids l.initial.steps l.steps

abbrev pub decreases-loop-level : goal.decreases-loop-level
decreases-loop-level g l = length (levels_of l.grammar.rules l.descent)
