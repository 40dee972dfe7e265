use Rattle.layer_promises.proofs.texts.texts_insert_told.Goals as goal

pub returns-clause-texts : goal.returns-clause-texts
returns-clause-texts c = c.insert.ensures.texts

pub returns-clause-err : goal.returns-clause-err
returns-clause-err c = c.insert.ensures.err

pub returns-clause-succeeds : goal.returns-clause-succeeds
returns-clause-succeeds c = c.insert.ensures.succeeds

pub returns-clause-few : goal.returns-clause-few
returns-clause-few c = c.insert.ensures.few
