use Rattle.layer_promises.proofs.tokens.is_whole_told.Goals as goal

pub returns-clause-whole : goal.returns-clause-whole
returns-clause-whole c = c.is_whole.ensures.whole

pub returns-clause-broken : goal.returns-clause-broken
returns-clause-broken c = c.is_whole.ensures.broken
