use Rattle.layer_promises.proofs.grammars.relabel_told.Goals as goal

pub returns-clause-rules : goal.returns-clause-rules
returns-clause-rules c = c.relabel.ensures.rules

pub returns-clause-size : goal.returns-clause-size
returns-clause-size c = c.relabel.ensures.size

pub returns-clause-value : goal.returns-clause-value
returns-clause-value c = c.relabel.ensures.value

pub returns-clause-values : goal.returns-clause-values
returns-clause-values c = c.relabel.ensures.values

pub returns-clause-spare_nodes : goal.returns-clause-spare_nodes
returns-clause-spare_nodes c = c.relabel.ensures.spare_nodes

pub returns-clause-spare_rules : goal.returns-clause-spare_rules
returns-clause-spare_rules c = c.relabel.ensures.spare_rules

pub returns-clause-limit : goal.returns-clause-limit
returns-clause-limit c = c.relabel.ensures.limit
