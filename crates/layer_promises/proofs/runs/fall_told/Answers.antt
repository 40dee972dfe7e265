use Rattle.layer_promises.proofs.runs.fall_told.Goals as goal

pub returns-clause-count : goal.returns-clause-count
returns-clause-count g c = c.fall.ensures.count

pub returns-clause-listed : goal.returns-clause-listed
returns-clause-listed g c = c.fall.ensures.listed

pub returns-clause-hits : goal.returns-clause-hits
returns-clause-hits g c = c.fall.ensures.hits

pub returns-clause-symbols : goal.returns-clause-symbols
returns-clause-symbols g c = c.fall.ensures.symbols

pub returns-clause-steps : goal.returns-clause-steps
returns-clause-steps g c = c.fall.ensures.steps

pub returns-clause-reads : goal.returns-clause-reads
returns-clause-reads g c = c.fall.ensures.reads

pub returns-clause-counted : goal.returns-clause-counted
returns-clause-counted g c = c.fall.ensures.counted
