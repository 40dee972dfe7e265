use Rattle.plain_tree.proofs.NodeCounts.{length-nodes}
use Rattle.plain_tree.proofs.laws.nodes_are_counted.Goals as goal

pub returns : goal.returns
returns c = length-nodes
