use Rattle.digram_index.proofs.inlining.inline_linked.Given as goal

abbrev pub ghosts-link_copy : goal.ghosts-link_copy
ghosts-link_copy a = record { name = a.blank.name; parts = a.blank.parts }
