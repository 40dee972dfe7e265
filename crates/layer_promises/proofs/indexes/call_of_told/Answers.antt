use Rattle.layer_promises.proofs.indexes.call_of_told.Goals as goal

pub returns-clause-some : goal.returns-clause-some
returns-clause-some c = c.call_of.ensures.some

pub returns-clause-none : goal.returns-clause-none
returns-clause-none c = c.call_of.ensures.none
