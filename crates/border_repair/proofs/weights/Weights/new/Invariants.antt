use Rattle.border_repair.proofs.weights.Weights.new.Given as goal

abbrev pub ghosts-weigh : goal.ghosts-weigh
ghosts-weigh a = record { name = a.blank.name; parts = a.blank.parts }
