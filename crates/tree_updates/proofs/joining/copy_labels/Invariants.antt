use Rattle.std.proofs.Common.{◌≡◌, take}
use Rattle.tree_updates.proofs.joining.copy_labels.Given as goal

abbrev pub invariant-loop-label : goal.invariant-loop-label
invariant-loop-label l = l.body ≡ take l.label-index l.labels
