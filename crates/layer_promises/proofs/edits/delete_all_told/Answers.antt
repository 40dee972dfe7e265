use Rattle.layer_promises.proofs.edits.delete_all_told.Goals as goal

pub returns-clause-deleted : goal.returns-clause-deleted
returns-clause-deleted g c = c.in_ok-left.ensures.deleted

pub returns-clause-few : goal.returns-clause-few
returns-clause-few g c = c.in_ok-left.ensures.few

pub returns-clause-swept : goal.returns-clause-swept
returns-clause-swept g c = c.in_ok-left.ensures.swept

pub returns-clause-refused : goal.returns-clause-refused
returns-clause-refused g c = c.in_ok-left.ensures.refused
