use Rattle.layer_promises.proofs.marks.find_marked_told.Goals as goal

pub returns-clause-spot : goal.returns-clause-spot
returns-clause-spot g c = c.find_marked.ensures.spot

pub returns-clause-leads : goal.returns-clause-leads
returns-clause-leads g c = c.find_marked.ensures.leads

pub returns-clause-some : goal.returns-clause-some
returns-clause-some g c = c.find_marked.ensures.some

pub returns-clause-marks : goal.returns-clause-marks
returns-clause-marks g c = c.find_marked.ensures.marks

pub returns-clause-first : goal.returns-clause-first
returns-clause-first g c = c.find_marked.ensures.first

pub returns-clause-steps : goal.returns-clause-steps
returns-clause-steps g c = c.find_marked.ensures.steps
