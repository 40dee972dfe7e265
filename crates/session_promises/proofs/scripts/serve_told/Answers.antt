use Rattle.session_promises.proofs.scripts.serve_told.Goals as goal

pub returns-clause-serves : goal.returns-clause-serves
returns-clause-serves g c = c.serve-status.ensures.serves

pub returns-clause-untouched : goal.returns-clause-untouched
returns-clause-untouched g c = c.serve-status.ensures.untouched

pub returns-clause-later : goal.returns-clause-later
returns-clause-later g c = c.serve-status.ensures.later

pub returns-clause-kept : goal.returns-clause-kept
returns-clause-kept g c = c.serve-status.ensures.kept

pub returns-clause-words : goal.returns-clause-words
returns-clause-words g c = c.serve-status.ensures.words

pub returns-clause-refused : goal.returns-clause-refused
returns-clause-refused g c = c.serve-status.ensures.refused

pub returns-clause-read_fault : goal.returns-clause-read_fault
returns-clause-read_fault g c = c.serve-status.ensures.read_fault

pub returns-clause-write_fault : goal.returns-clause-write_fault
returns-clause-write_fault g c = c.serve-status.ensures.write_fault
