use Rattle.std.proofs.Common.{◌≡◌, ◌≤◌, drop, length}
use Rattle.content_models.specs.Checking.{next_bits}
use Rattle.content_models.proofs.marking.next_bits.Given as goal

abbrev pub invariant-loop-left : goal.invariant-loop-left
invariant-loop-left l = (l.left ≤ length l.row) × (l.bits ≡ next_bits l.sets l.ended (drop l.left l.row))

abbrev pub decreases-loop-left : goal.decreases-loop-left
decreases-loop-left l = l.left
