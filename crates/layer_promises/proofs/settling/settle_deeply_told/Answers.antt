use Rattle.layer_promises.proofs.settling.settle_deeply_told.Goals as goal

pub returns-clause-settled : goal.returns-clause-settled
returns-clause-settled c = c.settle_deeply.ensures.settled

pub returns-clause-value : goal.returns-clause-value
returns-clause-value c = c.settle_deeply.ensures.value

pub returns-clause-swept : goal.returns-clause-swept
returns-clause-swept c = c.settle_deeply.ensures.swept

pub returns-clause-ranks : goal.returns-clause-ranks
returns-clause-ranks c = c.settle_deeply.ensures.ranks
