use Rattle.xml_nodes.proofs.Bytes.{spells-one}
use Rattle.xml_nodes.proofs.laws.spells_one.Goals as goal

pub returns : goal.returns
returns c = spells-one
