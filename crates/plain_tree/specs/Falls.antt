-- The kids of each node are fewer than the nodes that it stands for.
use Rattle.std.specs.Prelude.{◌≤◌, max, List, [], ◌∷◌}
use Rattle.std.proofs.Common.{arith}
use denote.Param.Weighed.{most}
use Rattle.plain_tree.specs.declared.nodes.Node.{Node}
use Rattle.plain_tree.specs.declared.nodes.Nodes.TheDeep.{deep-Node}
use Rattle.plain_tree.specs.NodeTree.{trees_of}
use Rattle.plain_tree.specs.Tree.{list_count}

pub kids_are_fewer : (ns : List Node) → max (most deep-Node ns) 0 ≤ list_count (trees_of ns)
kids_are_fewer [] = omega arith
kids_are_fewer (n ∷ ns) = omega (arith, kids_are_fewer ns)
