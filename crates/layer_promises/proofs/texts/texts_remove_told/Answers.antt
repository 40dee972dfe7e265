use Rattle.layer_promises.proofs.texts.texts_remove_told.Goals as goal

pub returns-clause-texts : goal.returns-clause-texts
returns-clause-texts c = c.remove_range.ensures.texts

pub returns-clause-room : goal.returns-clause-room
returns-clause-room c = c.remove_range.ensures.room
