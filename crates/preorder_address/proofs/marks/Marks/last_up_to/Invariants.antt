use Rattle.std.proofs.Common.{◌≤◌, length}
use Rattle.preorder_address.proofs.marks.Marks.last_up_to.Given as goal

abbrev pub invariant-loop-left : goal.invariant-loop-left
invariant-loop-left l = l.left ≤ length l.marks

abbrev pub decreases-loop-left : goal.decreases-loop-left
decreases-loop-left l = l.left
