use Rattle.std.proofs.Common.{◌≡◌, ◌++◌, ◌∷◌, [], ◌∙◌, ap}
use Rattle.plain_tree.specs.declared.kind.Kind.TheVariants.{Element}
use Rattle.plain_tree.specs.NodeTree.{tree_of}
use Rattle.plain_tree.specs.Tree.{node, trees}
use Rattle.xml_nodes.specs.Machine.{Closed}
use Rattle.xml_profile.proofs.Built.{closed_log, closed_built}
use Rattle.xml_profile.proofs.tree_builder.TreeBuilderBuilder.close.Goals as goal

pub invariant_of-self-2 : goal.invariant_of-self-2
invariant_of-self-2 c =
    let opened = c.in-Some.field-0 in
    let element : tree_of c.in_ok-node.node ≡ node Element opened.name [] (trees c.self.inside.kids) =
    c.in_ok-node.ensures ∙ ap (λ z. node Element opened.name [] (trees z)) c.replace-own.ensures.value in
    let pushed : c.push.new.self ≡ opened.kids ++ tree_of c.in_ok-node.node ∷ [] =
    c.in_ok-push.ensures.ok ∙ ap (λ z. z ++ tree_of c.in_ok-node.node ∷ []) c.replace-own.ensures.after in
    closed_built c.self.inside.outer.items c.pop.new.self.items opened c.self.inside.kids c.push.new.self (tree_of c.in_ok-node.node) c.in-Some.ensures.items element pushed
    c.self.invariant

pub returns-clause-log : goal.returns-clause-log
returns-clause-log c =
    let opened = c.in-Some.field-0 in
    let element : tree_of c.in_ok-node.node ≡ node Element opened.name [] (trees c.self.inside.kids) =
    c.in_ok-node.ensures ∙ ap (λ z. node Element opened.name [] (trees z)) c.replace-own.ensures.value in
    let pushed : c.push.new.self ≡ opened.kids ++ tree_of c.in_ok-node.node ∷ [] =
    c.in_ok-push.ensures.ok ∙ ap (λ z. z ++ tree_of c.in_ok-node.node ∷ []) c.replace-own.ensures.after in
    closed_log c.self.inside.outer.items c.pop.new.self.items opened c.self.inside.kids c.push.new.self (tree_of c.in_ok-node.node) c.in-Some.ensures.items element pushed
    ∙ ap (λ b. b.log ++ Closed ∷ []) c.self.view_is
