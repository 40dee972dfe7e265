use Rattle.layer_promises.proofs.cursors.go_to_told.Goals as goal

pub returns-clause-search : goal.returns-clause-search
returns-clause-search g c = c.go_to.ensures.search

pub returns-clause-some : goal.returns-clause-some
returns-clause-some g c = c.go_to.ensures.some

pub returns-clause-stands : goal.returns-clause-stands
returns-clause-stands g c = c.go_to.ensures.stands
