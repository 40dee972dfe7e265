use Rattle.xml_nodes.proofs.Bytes.{spells-one_list}
use Rattle.xml_nodes.proofs.laws.spells_one_list.Goals as goal

pub returns : goal.returns
returns c = spells-one_list
