use Rattle.std.proofs.Common.{ap}
use Rattle.xml_profile.proofs.Built.{content_built}
use Rattle.xml_profile.proofs.tree_builder.TreeBuilder.content.Goals as goal

pub returns : goal.returns
returns c = λ ks a e. content_built c.self.inside.outer.items c.self.inside.kids c.args.self.log ks (ap (λ b. b.log) c.self.view_is) c.self.invariant a e
