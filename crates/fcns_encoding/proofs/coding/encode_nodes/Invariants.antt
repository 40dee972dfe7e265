use Rattle.std.proofs.Common.{take}
use Rattle.plain_tree.specs.NodeTree.{trees_of}
use Rattle.fcns_encoding.proofs.ListLemmas.{AreEncoded}
use Rattle.fcns_encoding.proofs.coding.encode_nodes.Given as goal

abbrev pub invariant-loop-node : goal.invariant-loop-node
invariant-loop-node l = AreEncoded (trees_of (take l.node-index l.nodes)) l.fn.names l.names l.coded.body l.coded.texts
