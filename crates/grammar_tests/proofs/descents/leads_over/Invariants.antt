use Rattle.grammar_tests.proofs.descents.leads_over.Given as goal

abbrev pub ghosts-places_to : goal.ghosts-places_to
ghosts-places_to a = record { name = a.blank.name; parts = a.blank.parts }
