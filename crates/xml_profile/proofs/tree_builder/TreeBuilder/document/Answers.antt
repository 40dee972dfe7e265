use Rattle.std.proofs.Common.{◌∙◌, ap}
use Rattle.xml_profile.proofs.Built.{document_built}
use Rattle.xml_profile.proofs.tree_builder.TreeBuilder.document.Goals as goal

pub returns : goal.returns
returns c =
    document_built c.document_node.result c.self.inside.outer.items c.self.inside.kids c.args.self.log (ap (λ b. b.depth) c.self.view_is ∙ c.requires)
    (ap (λ b. b.log) c.self.view_is) c.self.invariant c.document_node.ensures
