use Rattle.layer_promises.proofs.grammar_files.write_told.Goals as goal

pub returns-clause-written : goal.returns-clause-written
returns-clause-written g c = c.in_ok-bytes.ensures.written

pub returns-clause-count : goal.returns-clause-count
returns-clause-count g c = c.in_ok-bytes.ensures.count

pub returns-clause-front : goal.returns-clause-front
returns-clause-front g c = c.in_ok-bytes.ensures.front

pub returns-clause-kept : goal.returns-clause-kept
returns-clause-kept g c = c.in_ok-bytes.ensures.kept

pub returns-clause-lost : goal.returns-clause-lost
returns-clause-lost g c = c.in_ok-bytes.ensures.lost

pub returns-clause-cause : goal.returns-clause-cause
returns-clause-cause g c = c.in_ok-bytes.ensures.cause

pub returns-clause-memory : goal.returns-clause-memory
returns-clause-memory g c = c.in_ok-bytes.ensures.memory
