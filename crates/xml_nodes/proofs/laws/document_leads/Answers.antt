use Rattle.xml_nodes.proofs.Documents.{document_leads}
use Rattle.xml_nodes.proofs.laws.document_leads.Goals as goal

pub returns : goal.returns
returns c = document_leads
