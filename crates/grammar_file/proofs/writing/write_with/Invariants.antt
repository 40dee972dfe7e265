use Rattle.grammar_file.proofs.writing.write_with.Given as goal

abbrev pub ghosts-write_file : goal.ghosts-write_file
ghosts-write_file g a = record { name = a.blank.name; parts = a.blank.parts }
