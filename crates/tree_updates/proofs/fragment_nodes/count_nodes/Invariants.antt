use Rattle.std.proofs.Common.{◌≡◌, ◌+◌, ◌-◌, ◌<◌, ◌^◌, length, min}
use Rattle.plain_tree.specs.NodeTree.{trees_of}
use Rattle.plain_tree.specs.Tree.{list_count}
use Rattle.tree_updates.proofs.fragment_nodes.count_nodes.Given as goal

abbrev pub invariant-loop-rest : goal.invariant-loop-rest
invariant-loop-rest l = (l.count < 2 ^ 64) × (min (l.count + list_count (trees_of l.rest)) (2 ^ 64 - 1) ≡ min (list_count (trees_of l.nodes)) (2 ^ 64 - 1))

abbrev pub decreases-loop-rest : goal.decreases-loop-rest
decreases-loop-rest l = length l.rest
