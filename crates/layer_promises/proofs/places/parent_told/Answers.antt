use Rattle.layer_promises.proofs.places.parent_told.Goals as goal

pub returns-clause-fine : goal.returns-clause-fine
returns-clause-fine g c = c.parent_of.ensures.fine

pub returns-clause-parent : goal.returns-clause-parent
returns-clause-parent g c = c.parent_of.ensures.parent

pub returns-clause-above : goal.returns-clause-above
returns-clause-above g c = c.parent_of.ensures.above

pub returns-clause-some : goal.returns-clause-some
returns-clause-some g c = c.parent_of.ensures.some

pub returns-clause-steps : goal.returns-clause-steps
returns-clause-steps g c = c.parent_of.ensures.steps
