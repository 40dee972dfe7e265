use Rattle.grammar_tests.proofs.edits.edits_leave_these_rules.Given as goal

abbrev pub ghosts-edited : goal.ghosts-edited
ghosts-edited a a' = record { name = a'.blank.name; parts = a'.blank.parts }
