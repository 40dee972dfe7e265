use Rattle.std.proofs.Common.{◌≡◌, ◌++◌, ◌≤◌, take, length, reverse}
use Rattle.border_repair.proofs.cutting.from_its_end.Given as goal

abbrev pub invariant-labels : goal.invariant-labels
invariant-labels l = record { done : reverse l.labels ≡ l.body ++ reverse (take l.left l.labels); within : l.left ≤ length l.labels }

abbrev pub decreases-labels : goal.decreases-labels
decreases-labels l = l.left
