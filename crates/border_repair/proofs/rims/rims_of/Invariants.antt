use Rattle.border_repair.proofs.rims.rims_of.Given as goal

abbrev pub ghosts-add_rims : goal.ghosts-add_rims
ghosts-add_rims a = record { name = a.blank.name; parts = a.blank.parts }
