use Rattle.layer_promises.proofs.borders.across_told.Goals as goal

pub returns-clause-value : goal.returns-clause-value
returns-clause-value c = c.in_ok-rule.ensures.value

pub returns-clause-rule : goal.returns-clause-rule
returns-clause-rule c = c.in_ok-rule.ensures.rule

pub returns-clause-swept : goal.returns-clause-swept
returns-clause-swept c = c.in_ok-rule.ensures.swept

pub returns-clause-first : goal.returns-clause-first
returns-clause-first c = c.in_ok-rule.ensures.first

pub returns-clause-left : goal.returns-clause-left
returns-clause-left c = c.in_ok-rule.ensures.left

pub returns-clause-calls : goal.returns-clause-calls
returns-clause-calls c = c.in_ok-rule.ensures.calls

pub returns-clause-size : goal.returns-clause-size
returns-clause-size c = c.in_ok-rule.ensures.size

pub returns-clause-refused : goal.returns-clause-refused
returns-clause-refused c = c.in_ok-rule.ensures.refused
