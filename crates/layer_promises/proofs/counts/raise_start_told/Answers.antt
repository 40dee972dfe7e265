use Rattle.layer_promises.proofs.counts.raise_start_told.Goals as goal

pub returns-clause-rows : goal.returns-clause-rows
returns-clause-rows c = c.raise_start.ensures.rows

pub returns-clause-rules : goal.returns-clause-rules
returns-clause-rules c = c.raise_start.ensures.rules

pub returns-clause-counts : goal.returns-clause-counts
returns-clause-counts c = c.raise_start.ensures.counts
