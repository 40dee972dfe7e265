use Rattle.layer_promises.proofs.grammars.match_at_told.Goals as goal

pub returns-clause-some : goal.returns-clause-some
returns-clause-some g c = c.match_at.ensures.some

pub returns-clause-none : goal.returns-clause-none
returns-clause-none g c = c.match_at.ensures.none

pub returns-clause-steps : goal.returns-clause-steps
returns-clause-steps g c = c.match_at.ensures.steps
