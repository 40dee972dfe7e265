use Rattle.grammar_tests.proofs.borders.a_digram_of_two_rules_is_replaced.Given as goal

abbrev pub ghosts-replaced : goal.ghosts-replaced
ghosts-replaced g a = record { name = a.blank.name; parts = a.blank.parts }
