use Rattle.layer_promises.proofs.borders.top_weight_told.Goals as goal

pub returns : goal.returns
returns c = c.top.ensures
