use Rattle.std.proofs.Common.{length}
use Rattle.plain_tree.specs.NodeTree.{tree_of}
use Rattle.fcns_encoding.proofs.VisitLemmas.{IsEncoding}
use Rattle.fcns_encoding.proofs.coding.Coded.add_tree.Given as goal

abbrev pub invariant-loop-walk : goal.invariant-loop-walk
invariant-loop-walk l = IsEncoding (tree_of l.node) l.walk l.fn.names l.names l.fn.self.body l.self.body l.fn.self.texts l.self.texts

abbrev pub decreases-loop-walk : goal.decreases-loop-walk
decreases-loop-walk l = length l.walk
