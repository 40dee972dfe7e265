use Rattle.border_repair.proofs.replacing.expose.Given as goal

abbrev pub ghosts-add_exposed : goal.ghosts-add_exposed
ghosts-add_exposed a = record { name = a.blank.name; parts = a.blank.parts }
