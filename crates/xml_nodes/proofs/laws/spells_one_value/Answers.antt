use Rattle.xml_nodes.proofs.Bytes.{spells-one_value}
use Rattle.xml_nodes.proofs.laws.spells_one_value.Goals as goal

pub returns : goal.returns
returns c = spells-one_value
