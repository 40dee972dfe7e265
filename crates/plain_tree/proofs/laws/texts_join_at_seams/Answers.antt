use Rattle.plain_tree.proofs.EditedDocuments.{edited-at-seams}
use Rattle.plain_tree.proofs.laws.texts_join_at_seams.Goals as goal

pub returns : goal.returns
returns c = λ t e h. edited-at-seams t h.document_is e h.allowed h.parts
