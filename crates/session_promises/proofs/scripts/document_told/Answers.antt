use Rattle.session_promises.proofs.scripts.document_told.Goals as goal

pub returns-clause-sees : goal.returns-clause-sees
returns-clause-sees c = c.document-seen.ensures.sees

pub returns-clause-held : goal.returns-clause-held
returns-clause-held c = c.document-seen.ensures.held

pub returns-clause-counted : goal.returns-clause-counted
returns-clause-counted c = c.document-seen.ensures.counted
