use Rattle.digram_index.proofs.dropping.drop_linked.Given as goal

abbrev pub ghosts-unlink_nodes : goal.ghosts-unlink_nodes
ghosts-unlink_nodes a = record { name = a.blank.name; parts = a.blank.parts }
