use Rattle.xml_nodes.proofs.SavedBytes.{saved-is_spelled}
use Rattle.xml_nodes.proofs.laws.saved_is_spelled.Goals as goal

pub returns : goal.returns
returns c = saved-is_spelled
