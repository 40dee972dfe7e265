use Rattle.edit_tests.proofs.subject.Subject.print.Given as goal

abbrev pub ghosts-print_in : goal.ghosts-print_in
ghosts-print_in a = record { name = a.blank.name; parts = a.blank.parts }
