use Rattle.layer_promises.proofs.documents.read_document_told.Goals as goal

pub returns-clause-spelled : goal.returns-clause-spelled
returns-clause-spelled c = c.read_document.ensures.spelled

pub returns-clause-bad : goal.returns-clause-bad
returns-clause-bad c = c.read_document.ensures.bad
