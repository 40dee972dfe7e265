use Rattle.slt_grammar.proofs.reading.site.Given as goal

abbrev pub ghosts-site_on : goal.ghosts-site_on
ghosts-site_on a = record { name = a.blank.name; parts = a.blank.parts }
