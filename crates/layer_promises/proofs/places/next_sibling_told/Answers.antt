use Rattle.layer_promises.proofs.places.next_sibling_told.Goals as goal

pub returns-clause-next : goal.returns-clause-next
returns-clause-next g c = c.next_sibling.ensures.next

pub returns-clause-some : goal.returns-clause-some
returns-clause-some g c = c.next_sibling.ensures.some

pub returns-clause-steps : goal.returns-clause-steps
returns-clause-steps g c = c.next_sibling.ensures.steps
