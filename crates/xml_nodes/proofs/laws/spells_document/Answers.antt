use Rattle.xml_nodes.proofs.Bytes.{spells-document}
use Rattle.xml_nodes.proofs.laws.spells_document.Goals as goal

pub returns : goal.returns
returns c = spells-document
