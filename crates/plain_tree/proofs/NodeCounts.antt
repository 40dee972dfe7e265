-- The nodes of a tree are as many as its count says.
use Rattle.std.proofs.Common.{◌≡◌, ◌+◌, ◌++◌, List, [], ◌∷◌, length, refl, arith, length-append}
use Rattle.plain_tree.specs.Tree.{Tree, node, Trees, none, more, node_count, node_count_all, list_count}
use Rattle.plain_tree.specs.Numbers.{nodes, nodes_all}

mutual
  pub length-nodes : (t : Tree) → length (nodes t) ≡ node_count t
  length-nodes (node k n v ks) = omega (arith, length-nodes_all ks)

  pub length-nodes_all : (ts : Trees) → length (nodes_all ts) ≡ node_count_all ts
  length-nodes_all none = refl
  length-nodes_all (more t ts) = omega (arith, length-append (nodes t) (nodes_all ts), length-nodes t, length-nodes_all ts)

pub list_count-append : (ts : List Tree) (t : Tree) → list_count (ts ++ t ∷ []) ≡ list_count ts + node_count t
list_count-append [] t = omega arith
list_count-append (s ∷ ts) t = omega (arith, list_count-append ts t)
