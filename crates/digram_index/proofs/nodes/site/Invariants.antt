use Rattle.digram_index.proofs.nodes.site.Given as goal

abbrev pub ghosts-site_of : goal.ghosts-site_of
ghosts-site_of a = record { name = a.blank.name; parts = a.blank.parts }
