use Rattle.plain_tree.specs.NodeTree.{trees_of}
use Rattle.plain_tree.specs.Freeing.{work}
use Rattle.plain_tree.proofs.nodes.Nodes.drop.Given as goal

abbrev pub decreases-loop-node : goal.decreases-loop-node
decreases-loop-node l = work (trees_of l.waiting.items)
