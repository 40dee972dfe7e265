use Rattle.layer_promises.proofs.edits.apply_told.Goals as goal

pub returns-clause-applies : goal.returns-clause-applies
returns-clause-applies g c = c.in_ok-apply.ensures.applies

pub returns-clause-marks : goal.returns-clause-marks
returns-clause-marks g c = c.in_ok-apply.ensures.marks
