use Rattle.layer_promises.proofs.folding.encode_slice_told.Goals as goal

pub returns-clause-code : goal.returns-clause-code
returns-clause-code c = c.encode_slice.ensures.code

pub returns-clause-texts : goal.returns-clause-texts
returns-clause-texts c = c.encode_slice.ensures.texts

pub returns-clause-names : goal.returns-clause-names
returns-clause-names c = c.encode_slice.ensures.names

pub returns-clause-refused : goal.returns-clause-refused
returns-clause-refused c = c.encode_slice.ensures.refused
