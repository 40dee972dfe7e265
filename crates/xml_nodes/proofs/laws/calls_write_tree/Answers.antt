use Rattle.xml_nodes.proofs.Written.{calls-write_tree}
use Rattle.xml_nodes.proofs.laws.calls_write_tree.Goals as goal

pub returns : goal.returns
returns c = calls-write_tree
