use Rattle.std.proofs.Common.{length}
use Rattle.std.specs.Prelude.{◌↔◌}
use Rattle.plain_tree.specs.Allowed.{AreAside}
use Rattle.plain_tree.specs.NodeTree.{trees_of}
use Rattle.plain_tree.specs.Tree.{trees}
use Rattle.tree_updates.proofs.fragment_kinds.are_aside.Given as goal

abbrev pub invariant-loop-rest : goal.invariant-loop-rest
invariant-loop-rest l = AreAside (trees (trees_of l.rest)) ↔ AreAside (trees (trees_of l.nodes))

abbrev pub decreases-loop-rest : goal.decreases-loop-rest
decreases-loop-rest l = length l.rest
