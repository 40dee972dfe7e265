use Rattle.layer_promises.proofs.runs.find_told.Goals as goal

pub returns-clause-found : goal.returns-clause-found
returns-clause-found g c = c.find.ensures.found

pub returns-clause-absent : goal.returns-clause-absent
returns-clause-absent g c = c.find.ensures.absent
