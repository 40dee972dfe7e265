use Rattle.layer_promises.proofs.counts.nodes_told.Goals as goal

pub returns-clause-kept : goal.returns-clause-kept
returns-clause-kept c = c.nodes.ensures.kept

pub returns-clause-counts : goal.returns-clause-counts
returns-clause-counts c = c.nodes.ensures.counts
