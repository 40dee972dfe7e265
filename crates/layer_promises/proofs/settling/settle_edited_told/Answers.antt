use Rattle.layer_promises.proofs.settling.settle_edited_told.Goals as goal

pub returns-clause-settled : goal.returns-clause-settled
returns-clause-settled c = c.settle_edited.ensures.settled

pub returns-clause-kept : goal.returns-clause-kept
returns-clause-kept c = c.settle_edited.ensures.kept

pub returns-clause-ranks : goal.returns-clause-ranks
returns-clause-ranks c = c.settle_edited.ensures.ranks

pub returns-clause-index : goal.returns-clause-index
returns-clause-index c = c.settle_edited.ensures.index

pub returns-clause-marks : goal.returns-clause-marks
returns-clause-marks c = c.settle_edited.ensures.marks
