use Rattle.layer_promises.proofs.indexes.top_told.Goals as goal

pub returns-clause-within : goal.returns-clause-within
returns-clause-within c = c.top.ensures.within

pub returns-clause-three : goal.returns-clause-three
returns-clause-three c = c.top.ensures.three

pub returns-clause-none : goal.returns-clause-none
returns-clause-none c = c.top.ensures.none

pub returns-clause-most : goal.returns-clause-most
returns-clause-most c = c.top.ensures.most
