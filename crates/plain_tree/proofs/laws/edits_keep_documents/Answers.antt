use Rattle.plain_tree.proofs.LawfulDocuments.{placed-alone}
use Rattle.plain_tree.proofs.EditedDocuments.{edited-alone}
use Rattle.plain_tree.proofs.laws.edits_keep_documents.Goals as goal

pub returns : goal.returns
returns c = λ t e h. ((placed-alone t h.document_is e h.allowed h.parts).1, (edited-alone t h.document_is e h.allowed h.parts).1)
