use Rattle.xml_nodes.proofs.Fragments.{leads-fragment}
use Rattle.xml_nodes.proofs.laws.leads_to_fragment.Goals as goal

pub returns : goal.returns
returns c = leads-fragment
