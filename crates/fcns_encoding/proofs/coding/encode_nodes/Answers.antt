use Rattle.fcns_encoding.proofs.InternLemmas.{on-err}
use Rattle.fcns_encoding.proofs.ListLemmas.{nodes-go, nodes-fail}
use Rattle.fcns_encoding.proofs.coding.encode_nodes.Goals as goal

pub returns-in_err-add_tree-clause-refused : goal.returns-in_err-add_tree-clause-refused
returns-in_err-add_tree-clause-refused c =
    on-err c.from_residual.result (nodes-fail c.args.nodes.now c.loop-node.node-index c.node-item.result c.loop-node-test.true c.node-item.is _ _ _ _ _ c.loop-node.invariant c.in_err-add_tree.ensures.refused)

pub loop-node-preserved : goal.loop-node-preserved
loop-node-preserved c =
    nodes-go c.args.nodes.now c.loop-node.node-index c.node-item.result c.loop-node-test.true c.node-item.is _ _ _ _ _ c.loop-node.invariant _ _ c.in_ok-add_tree.ensures.labels c.in_ok-add_tree.ensures.texts c.in_ok-add_tree.ensures.names
