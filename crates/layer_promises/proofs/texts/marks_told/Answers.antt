use Rattle.layer_promises.proofs.texts.marks_told.Goals as goal

pub returns : goal.returns
returns c = c.marks.ensures
