use Rattle.model_tests.proofs.documents.as_many_elements_as_can_be_are_checked.Given as goal

abbrev pub ghosts-wrong_in : goal.ghosts-wrong_in
ghosts-wrong_in a a' = record { name = a'.blank.name; parts = a'.blank.parts }
