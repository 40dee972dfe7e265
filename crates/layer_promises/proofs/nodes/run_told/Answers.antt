use Rattle.layer_promises.proofs.nodes.run_told.Goals as goal

pub returns-clause-ok : goal.returns-clause-ok
returns-clause-ok c = c.run.ensures.ok

pub returns-clause-refused : goal.returns-clause-refused
returns-clause-refused c = c.run.ensures.refused
