use Rattle.layer_promises.proofs.nodes.lawful_told.Goals as goal

pub returns : goal.returns
returns c = c.lawful.ensures
