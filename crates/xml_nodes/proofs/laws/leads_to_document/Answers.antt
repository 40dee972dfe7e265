use Rattle.xml_nodes.proofs.Grammar.{leads-document}
use Rattle.xml_nodes.proofs.laws.leads_to_document.Goals as goal

pub returns : goal.returns
returns c = leads-document
