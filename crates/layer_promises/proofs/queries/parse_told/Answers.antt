use Rattle.layer_promises.proofs.queries.parse_told.Goals as goal

pub returns-clause-spelled : goal.returns-clause-spelled
returns-clause-spelled c = c.parse.ensures.spelled

pub returns-clause-small : goal.returns-clause-small
returns-clause-small c = c.parse.ensures.small

pub returns-clause-bad : goal.returns-clause-bad
returns-clause-bad c = c.parse.ensures.bad

pub returns-clause-large : goal.returns-clause-large
returns-clause-large c = c.parse.ensures.large
