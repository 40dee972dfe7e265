use Rattle.rule_pruning.proofs.savings.body_length.Given as goal

abbrev pub ghosts-body_size : goal.ghosts-body_size
ghosts-body_size a = record { name = a.blank.name; parts = a.blank.parts }
