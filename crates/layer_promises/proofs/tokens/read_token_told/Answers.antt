use Rattle.layer_promises.proofs.tokens.read_token_told.Goals as goal

pub returns-clause-found : goal.returns-clause-found
returns-clause-found c = c.read_token.ensures.found

pub returns-clause-none : goal.returns-clause-none
returns-clause-none c = c.read_token.ensures.none
