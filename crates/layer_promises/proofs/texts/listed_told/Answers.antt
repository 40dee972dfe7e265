use Rattle.layer_promises.proofs.texts.listed_told.Goals as goal

pub returns-clause-list : goal.returns-clause-list
returns-clause-list c = c.in_ok-list.ensures.list

pub returns-clause-none : goal.returns-clause-none
returns-clause-none c = c.in_ok-list.ensures.none
