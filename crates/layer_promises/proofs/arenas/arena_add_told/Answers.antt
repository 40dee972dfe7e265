use Rattle.layer_promises.proofs.arenas.arena_add_told.Goals as goal

pub returns-clause-vacant : goal.returns-clause-vacant
returns-clause-vacant c = c.add.ensures.vacant

pub returns-clause-fresh : goal.returns-clause-fresh
returns-clause-fresh c = c.add.ensures.fresh

pub returns-clause-term : goal.returns-clause-term
returns-clause-term c = c.add.ensures.term

pub returns-clause-gone : goal.returns-clause-gone
returns-clause-gone c = c.add.ensures.gone

pub returns-clause-others : goal.returns-clause-others
returns-clause-others c = c.add.ensures.others

pub returns-clause-spare : goal.returns-clause-spare
returns-clause-spare c = c.add.ensures.spare

pub returns-clause-limit : goal.returns-clause-limit
returns-clause-limit c = c.add.ensures.limit

pub returns-clause-below : goal.returns-clause-below
returns-clause-below c = c.add.ensures.below
