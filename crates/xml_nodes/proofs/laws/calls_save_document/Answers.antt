use Rattle.xml_nodes.proofs.Written.{calls-save_document}
use Rattle.xml_nodes.proofs.laws.calls_save_document.Goals as goal

pub returns : goal.returns
returns c = calls-save_document
