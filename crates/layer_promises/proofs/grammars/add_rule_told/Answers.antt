use Rattle.layer_promises.proofs.grammars.add_rule_told.Goals as goal

pub returns-clause-rules : goal.returns-clause-rules
returns-clause-rules c = c.add_rule.ensures.rules

pub returns-clause-refused : goal.returns-clause-refused
returns-clause-refused c = c.add_rule.ensures.refused

pub returns-clause-value : goal.returns-clause-value
returns-clause-value c = c.add_rule.ensures.value

pub returns-clause-values : goal.returns-clause-values
returns-clause-values c = c.add_rule.ensures.values

pub returns-clause-size : goal.returns-clause-size
returns-clause-size c = c.add_rule.ensures.size

pub returns-clause-succeeds : goal.returns-clause-succeeds
returns-clause-succeeds c = c.add_rule.ensures.succeeds

pub returns-clause-spare_nodes : goal.returns-clause-spare_nodes
returns-clause-spare_nodes c = c.add_rule.ensures.spare_nodes

pub returns-clause-spare_rules : goal.returns-clause-spare_rules
returns-clause-spare_rules c = c.add_rule.ensures.spare_rules

pub returns-clause-limit : goal.returns-clause-limit
returns-clause-limit c = c.add_rule.ensures.limit

pub returns-clause-stays : goal.returns-clause-stays
returns-clause-stays c = c.add_rule.ensures.stays
