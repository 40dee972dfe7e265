use Rattle.layer_promises.proofs.grammars.inline_told.Goals as goal

pub returns-clause-rules : goal.returns-clause-rules
returns-clause-rules c = c.inline.ensures.rules

pub returns-clause-root : goal.returns-clause-root
returns-clause-root c = c.inline.ensures.root

pub returns-clause-refused : goal.returns-clause-refused
returns-clause-refused c = c.inline.ensures.refused

pub returns-clause-values : goal.returns-clause-values
returns-clause-values c = c.inline.ensures.values

pub returns-clause-size : goal.returns-clause-size
returns-clause-size c = c.inline.ensures.size

pub returns-clause-succeeds : goal.returns-clause-succeeds
returns-clause-succeeds c = c.inline.ensures.succeeds

pub returns-clause-spare_nodes : goal.returns-clause-spare_nodes
returns-clause-spare_nodes c = c.inline.ensures.spare_nodes

pub returns-clause-spare_rules : goal.returns-clause-spare_rules
returns-clause-spare_rules c = c.inline.ensures.spare_rules

pub returns-clause-limit : goal.returns-clause-limit
returns-clause-limit c = c.inline.ensures.limit

pub returns-clause-stays : goal.returns-clause-stays
returns-clause-stays c = c.inline.ensures.stays
