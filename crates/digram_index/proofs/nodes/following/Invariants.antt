use Rattle.digram_index.proofs.nodes.following.Given as goal

abbrev pub ghosts-following_of : goal.ghosts-following_of
ghosts-following_of a = record { name = a.blank.name; parts = a.blank.parts }
