use Rattle.grammar_file.proofs.texts_of.are_texts_of.Given as goal

abbrev pub ghosts-walk_texts : goal.ghosts-walk_texts
ghosts-walk_texts a = record { name = a.blank.name; parts = a.blank.parts }
