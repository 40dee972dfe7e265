use Rattle.layer_promises.proofs.queries.compile_told.Goals as goal

pub returns-clause-selects : goal.returns-clause-selects
returns-clause-selects c = c.compile.ensures.selects

pub returns-clause-states : goal.returns-clause-states
returns-clause-states c = c.compile.ensures.states
