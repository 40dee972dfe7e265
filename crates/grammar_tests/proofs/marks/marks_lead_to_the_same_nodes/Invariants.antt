use Rattle.grammar_tests.proofs.marks.marks_lead_to_the_same_nodes.Given as goal

abbrev pub ghosts-places : goal.ghosts-places
ghosts-places g a = record { name = a.blank.name; parts = a.blank.parts }
