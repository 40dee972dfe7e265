use Rattle.model_tests.proofs.documents.wrong_elements_are_found.Given as goal

abbrev pub ghosts-wrong_in : goal.ghosts-wrong_in
ghosts-wrong_in a a' = record { name = a'.blank.name; parts = a'.blank.parts }
