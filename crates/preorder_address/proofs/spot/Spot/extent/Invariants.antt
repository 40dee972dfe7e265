use Rattle.preorder_address.proofs.Extending.{Extending}
use Rattle.preorder_address.proofs.spot.Spot.extent.Given as goal

abbrev pub invariant-loop-left : goal.invariant-loop-left
invariant-loop-left g l = Extending l.grammar l.self.before.nodes l.self.levels.items l.left l.range l.below l.initial.steps l.steps

abbrev pub decreases-loop-left : goal.decreases-loop-left
decreases-loop-left g l = l.left
