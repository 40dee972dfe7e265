-- Kinds with names.
use Rattle.std.specs.Prelude.{ℕ, List, map}
use Rattle.plain_tree.specs.declared.kind.Kind.{Kind}
use Rattle.plain_tree.specs.Numbers.{nodes, nodes_all}
use Rattle.plain_tree.specs.Tree.{Tree, node, Trees}

-- a kind and a name
abbrev pub Pair : Type 0
Pair = Kind × List ℕ

-- those of a node
abbrev pub tree_pair : Tree → Pair
tree_pair (node kind name value kids) = (kind, name)

-- the kinds and names of a tree's nodes, in document order
abbrev pub pairs_of_tree : Tree → List Pair
pairs_of_tree t = map tree_pair (nodes t)

-- and those of a list of trees
abbrev pub pairs_of_trees : Trees → List Pair
pairs_of_trees ts = map tree_pair (nodes_all ts)
