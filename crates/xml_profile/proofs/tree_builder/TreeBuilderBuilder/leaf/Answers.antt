use Rattle.std.proofs.Common.{◌++◌, ◌∷◌, [], ◌∙◌, ap}
use Rattle.plain_tree.specs.NodeTree.{tree_of}
use Rattle.xml_nodes.specs.Machine.{Leaf}
use Rattle.xml_profile.proofs.Built.{leaf_log, leaf_built}
use Rattle.xml_profile.proofs.tree_builder.TreeBuilderBuilder.leaf.Goals as goal

pub invariant_of-self-2 : goal.invariant_of-self-2
invariant_of-self-2 c =
    leaf_built c.self.inside.outer.items c.self.inside.kids c.push.new.self c.args.kind c.args.name.now c.args.value.now (tree_of c.in_ok-node.node)
    c.requires.leaf c.in_ok-node.ensures c.in_ok-push.ensures.ok c.self.invariant

pub returns-clause-log : goal.returns-clause-log
returns-clause-log c =
    leaf_log c.self.inside.outer.items c.self.inside.kids c.push.new.self c.args.kind c.args.name.now c.args.value.now (tree_of c.in_ok-node.node)
    c.requires.leaf c.in_ok-node.ensures c.in_ok-push.ensures.ok
    ∙ ap (λ b. b.log ++ Leaf c.args.kind c.args.name.now c.args.value.now ∷ []) c.self.view_is
