use Rattle.query_tests.proofs.runs.runs_find_what_their_rows_say.Given as goal

abbrev pub ghosts-find : goal.ghosts-find
ghosts-find a a' = record { name = a'.blank.name; parts = a'.blank.parts }
