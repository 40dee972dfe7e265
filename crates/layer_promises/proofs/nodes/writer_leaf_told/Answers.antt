use Rattle.layer_promises.proofs.nodes.writer_leaf_told.Goals as goal

pub returns-clause-written : goal.returns-clause-written
returns-clause-written g c = c.leaf.ensures.written

pub returns-clause-pen : goal.returns-clause-pen
returns-clause-pen g c = c.leaf.ensures.pen

pub returns-clause-count : goal.returns-clause-count
returns-clause-count g c = c.leaf.ensures.count

pub returns-clause-failed_pen : goal.returns-clause-failed_pen
returns-clause-failed_pen g c = c.leaf.ensures.failed_pen

pub returns-clause-failed_count : goal.returns-clause-failed_count
returns-clause-failed_count g c = c.leaf.ensures.failed_count

pub returns-clause-kept : goal.returns-clause-kept
returns-clause-kept g c = c.leaf.ensures.kept

pub returns-clause-lost : goal.returns-clause-lost
returns-clause-lost g c = c.leaf.ensures.lost

pub returns-clause-cause : goal.returns-clause-cause
returns-clause-cause g c = c.leaf.ensures.cause

pub returns-clause-same_reference : goal.returns-clause-same_reference
returns-clause-same_reference g c = c.leaf.ensures.same_reference
