use Rattle.layer_promises.proofs.outside.shelf_seal_told.Goals as goal

pub returns-clause-content : goal.returns-clause-content
returns-clause-content g c = c.in_ok-seal.ensures.content

pub returns-clause-cause : goal.returns-clause-cause
returns-clause-cause g c = c.in_ok-seal.ensures.cause
