use Rattle.grammar_file.proofs.lawful.codes_document.Given as goal

abbrev pub ghosts-runs_to_document : goal.ghosts-runs_to_document
ghosts-runs_to_document a = record { name = a.blank.name; parts = a.blank.parts }
