use Rattle.digram_index.proofs.nodes.item.Given as goal

abbrev pub ghosts-item_of : goal.ghosts-item_of
ghosts-item_of a = record { name = a.blank.name; parts = a.blank.parts }
