-- The tree for which a node of the program stands.
use Rattle.std.specs.Prelude.{◌≡◌, List, map, Option, Some, None}
use Rattle.std.specs.Borrow.{Bor}
use Rattle.plain_tree.specs.declared.nodes.Node.{Node}
use Rattle.plain_tree.specs.Tree.{Tree, node, trees}

abbrev pub tree_of : Node → Tree
tree_of n = node n.kind n.name n.value (trees n.kids)

abbrev pub trees_of : List Node → List Tree
trees_of = map tree_of

abbrev pub SeesTree : Option (Bor Node) → Option Tree → Type 0
SeesTree (Some n) t = t ≡ Some (tree_of n.now)
SeesTree None t = t ≡ None
