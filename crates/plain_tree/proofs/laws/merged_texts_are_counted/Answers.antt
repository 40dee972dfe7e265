use Rattle.plain_tree.proofs.EditCounts.{merged-counts}
use Rattle.plain_tree.proofs.laws.merged_texts_are_counted.Goals as goal

pub returns : goal.returns
returns c = λ t e h. merged-counts t e h.document_is h.allowed h.parts
