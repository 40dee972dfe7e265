use Rattle.layer_promises.proofs.isolating.isolate_linked_told.Goals as goal

pub returns-clause-others : goal.returns-clause-others
returns-clause-others g c = c.isolate_linked-key.ensures.others

pub returns-clause-values : goal.returns-clause-values
returns-clause-values g c = c.isolate_linked-key.ensures.values

pub returns-clause-node : goal.returns-clause-node
returns-clause-node g c = c.isolate_linked-key.ensures.node

pub returns-clause-front : goal.returns-clause-front
returns-clause-front g c = c.isolate_linked-key.ensures.front

pub returns-clause-before : goal.returns-clause-before
returns-clause-before g c = c.isolate_linked-key.ensures.before

pub returns-clause-size : goal.returns-clause-size
returns-clause-size g c = c.isolate_linked-key.ensures.size

pub returns-clause-most : goal.returns-clause-most
returns-clause-most g c = c.isolate_linked-key.ensures.most

pub returns-clause-index : goal.returns-clause-index
returns-clause-index g c = c.isolate_linked-key.ensures.index

pub returns-clause-spare_nodes : goal.returns-clause-spare_nodes
returns-clause-spare_nodes g c = c.isolate_linked-key.ensures.spare_nodes

pub returns-clause-links : goal.returns-clause-links
returns-clause-links g c = c.isolate_linked-key.ensures.links

pub returns-clause-numbers : goal.returns-clause-numbers
returns-clause-numbers g c = c.isolate_linked-key.ensures.numbers

pub returns-clause-spare_rules : goal.returns-clause-spare_rules
returns-clause-spare_rules g c = c.isolate_linked-key.ensures.spare_rules

pub returns-clause-limit : goal.returns-clause-limit
returns-clause-limit g c = c.isolate_linked-key.ensures.limit

pub returns-clause-cells : goal.returns-clause-cells
returns-clause-cells g c = c.isolate_linked-key.ensures.cells

pub returns-clause-steps : goal.returns-clause-steps
returns-clause-steps g c = c.isolate_linked-key.ensures.steps
