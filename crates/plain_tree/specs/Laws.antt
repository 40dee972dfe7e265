-- What holds of every tree.
use Rattle.std.specs.Prelude.{◌≡◌, length}
use Rattle.plain_tree.specs.Tree.{Tree, node_count}
use Rattle.plain_tree.specs.Numbers.{nodes}
use Rattle.plain_tree.specs.Visits.{visits, opened}

-- the numbers of a tree's nodes are those below its count
abbrev pub NodesAreCounted : Type 0
NodesAreCounted = (t : Tree) → length (nodes t) ≡ node_count t

-- a walk opens the nodes in document order
abbrev pub VisitsOpenNodes : Type 0
VisitsOpenNodes = (t : Tree) → opened (visits t) ≡ nodes t
