use Rattle.layer_promises.proofs.settling.replace_told.Goals as goal

pub returns-clause-index : goal.returns-clause-index
returns-clause-index c = c.in_ok-done.ensures.index

pub returns-clause-value : goal.returns-clause-value
returns-clause-value c = c.in_ok-done.ensures.value

pub returns-clause-rules : goal.returns-clause-rules
returns-clause-rules c = c.in_ok-done.ensures.rules

pub returns-clause-body : goal.returns-clause-body
returns-clause-body c = c.in_ok-done.ensures.body

pub returns-clause-ranks : goal.returns-clause-ranks
returns-clause-ranks c = c.in_ok-done.ensures.ranks

pub returns-clause-only : goal.returns-clause-only
returns-clause-only c = c.in_ok-done.ensures.only

pub returns-clause-most : goal.returns-clause-most
returns-clause-most c = c.in_ok-done.ensures.most

pub returns-clause-count : goal.returns-clause-count
returns-clause-count c = c.in_ok-done.ensures.count

pub returns-clause-three : goal.returns-clause-three
returns-clause-three c = c.in_ok-done.ensures.three

pub returns-clause-size : goal.returns-clause-size
returns-clause-size c = c.in_ok-done.ensures.size

pub returns-clause-refused : goal.returns-clause-refused
returns-clause-refused c = c.in_ok-done.ensures.refused

pub returns-clause-refused_rules : goal.returns-clause-refused_rules
returns-clause-refused_rules c = c.in_ok-done.ensures.refused_rules

pub returns-clause-place : goal.returns-clause-place
returns-clause-place c = c.in_ok-done.ensures.place

pub returns-clause-values : goal.returns-clause-values
returns-clause-values c = c.in_ok-done.ensures.values

pub returns-clause-differ : goal.returns-clause-differ
returns-clause-differ c = c.in_ok-done.ensures.differ

pub returns-clause-swept : goal.returns-clause-swept
returns-clause-swept c = c.in_ok-done.ensures.swept

pub returns-clause-marks : goal.returns-clause-marks
returns-clause-marks c = c.in_ok-done.ensures.marks
