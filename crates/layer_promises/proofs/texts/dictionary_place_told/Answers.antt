use Rattle.layer_promises.proofs.texts.dictionary_place_told.Goals as goal

pub returns : goal.returns
returns c = c.place.ensures
