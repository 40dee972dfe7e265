use Rattle.layer_promises.proofs.cursors.most_open_told.Goals as goal

pub returns-clause-bound : goal.returns-clause-bound
returns-clause-bound g c = c.in_ok-most.ensures.bound

pub returns-clause-least : goal.returns-clause-least
returns-clause-least g c = c.in_ok-most.ensures.least

pub returns-clause-cursors : goal.returns-clause-cursors
returns-clause-cursors g c = c.in_ok-most.ensures.cursors
