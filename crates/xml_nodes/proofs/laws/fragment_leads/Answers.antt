use Rattle.xml_nodes.proofs.Fragments.{fragment-leads}
use Rattle.xml_nodes.proofs.laws.fragment_leads.Goals as goal

pub returns : goal.returns
returns c = fragment-leads
