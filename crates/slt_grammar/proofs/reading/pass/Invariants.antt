use Rattle.slt_grammar.proofs.reading.pass.Given as goal

abbrev pub ghosts-pass_on : goal.ghosts-pass_on
ghosts-pass_on a = record { name = a.blank.name; parts = a.blank.parts }
