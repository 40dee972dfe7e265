use Rattle.local_repair.proofs.reusing.match_rule.Given as goal

abbrev pub ghosts-arguments_at : goal.ghosts-arguments_at
ghosts-arguments_at a = record { name = a.blank.name; parts = a.blank.parts }
