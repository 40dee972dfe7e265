use Rattle.std.proofs.Common.{◌≡◌, ◌++◌, ◌≤◌, take, length, reverse}
use Rattle.border_repair.specs.Folding.{live}
use Rattle.border_repair.proofs.folding.written.Given as goal

abbrev pub invariant-labels : goal.invariant-labels
invariant-labels l = record { done : live (reverse l.labels) ≡ l.body ++ live (reverse (take l.left l.labels)); within : l.left ≤ length l.labels }

abbrev pub decreases-labels : goal.decreases-labels
decreases-labels l = l.left
