use Rattle.std.proofs.Common.{◌≡◌, ◌+◌, ◌-◌, ◌<◌, ◌^◌, length, min}
use Rattle.plain_tree.specs.NodeTree.{tree_of}
use Rattle.plain_tree.specs.Tree.{node_count}
use Rattle.plain_tree.specs.Visits.{opened}
use Rattle.tree_updates.proofs.fragment_nodes.counted_with.Given as goal

abbrev pub invariant-loop-walk : goal.invariant-loop-walk
invariant-loop-walk l = (l.count < 2 ^ 64) × (min (l.count + length (opened l.walk)) (2 ^ 64 - 1) ≡ min (l.before + node_count (tree_of l.node)) (2 ^ 64 - 1))

abbrev pub decreases-loop-walk : goal.decreases-loop-walk
decreases-loop-walk l = length l.walk
