use Rattle.grammar_tests.proofs.calls_again.a_call_is_made_again_of_what_it_stood_for.Given as goal

abbrev pub ghosts-edited : goal.ghosts-edited
ghosts-edited a a' = record { name = a'.blank.name; parts = a'.blank.parts }
