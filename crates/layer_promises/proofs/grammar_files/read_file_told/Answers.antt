use Rattle.layer_promises.proofs.grammar_files.read_file_told.Goals as goal

pub returns-clause-file : goal.returns-clause-file
returns-clause-file c = c.read.ensures.file

pub returns-clause-document : goal.returns-clause-document
returns-clause-document c = c.read.ensures.document

pub returns-clause-bad : goal.returns-clause-bad
returns-clause-bad c = c.read.ensures.bad

pub returns-clause-many : goal.returns-clause-many
returns-clause-many c = c.read.ensures.many
