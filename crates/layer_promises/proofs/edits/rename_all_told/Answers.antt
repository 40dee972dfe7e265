use Rattle.layer_promises.proofs.edits.rename_all_told.Goals as goal

pub returns-clause-renamed : goal.returns-clause-renamed
returns-clause-renamed g c = c.in_ok-renamed.ensures.renamed

pub returns-clause-few : goal.returns-clause-few
returns-clause-few g c = c.in_ok-renamed.ensures.few

pub returns-clause-swept : goal.returns-clause-swept
returns-clause-swept g c = c.in_ok-renamed.ensures.swept

pub returns-clause-refused : goal.returns-clause-refused
returns-clause-refused g c = c.in_ok-renamed.ensures.refused
