use Rattle.layer_promises.proofs.settling.settle_told.Goals as goal

pub returns-clause-settled : goal.returns-clause-settled
returns-clause-settled c = c.settle.ensures.settled

pub returns-clause-kept : goal.returns-clause-kept
returns-clause-kept c = c.settle.ensures.kept

pub returns-clause-ranks : goal.returns-clause-ranks
returns-clause-ranks c = c.settle.ensures.ranks
