use Rattle.xml_nodes.proofs.Bytes.{spells-fragment}
use Rattle.xml_nodes.proofs.laws.spells_fragment.Goals as goal

pub returns : goal.returns
returns c = spells-fragment
