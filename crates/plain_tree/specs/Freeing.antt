-- How much work it is to free trees without a stack.
use Rattle.std.specs.Prelude.{ℕ, ◌+◌, ◌*◌, List}
use Rattle.plain_tree.specs.Tree.{Tree, node, Trees, none, more, trees, node_count_all}

-- each node comes up twice, but a first kid of a first kid, and so on, once
abbrev mutual
  pub first_work : Tree → ℕ
  first_work (node kind name value kids) = all_work kids + 1

  pub all_work : Trees → ℕ
  all_work none = 0
  all_work (more t ts) = first_work t + 2 * node_count_all ts

abbrev pub work : List Tree → ℕ
work ts = all_work (trees ts)
