use Rattle.layer_promises.proofs.marks.shift_told.Goals as goal

pub returns : goal.returns
returns c = c.shift.ensures
