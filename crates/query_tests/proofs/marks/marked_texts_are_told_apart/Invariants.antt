use Rattle.query_tests.proofs.marks.marked_texts_are_told_apart.Given as goal

abbrev pub ghosts-find : goal.ghosts-find
ghosts-find a a' = record { name = a'.blank.name; parts = a'.blank.parts }
