use Rattle.grammar_tests.proofs.numbers.are_told.Given as goal

abbrev pub ghosts-tell : goal.ghosts-tell
ghosts-tell a = record { name = a.blank.name; parts = a.blank.parts }
