use Rattle.grammar_tests.proofs.rises.most_of.Given as goal

abbrev pub ghosts-open_in : goal.ghosts-open_in
ghosts-open_in a = record { name = a.blank.name; parts = a.blank.parts }
