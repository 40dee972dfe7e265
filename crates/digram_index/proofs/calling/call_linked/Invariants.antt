use Rattle.digram_index.proofs.calling.call_linked.Given as goal

abbrev pub ghosts-unlink_body : goal.ghosts-unlink_body
ghosts-unlink_body a = record { name = a.blank.name; parts = a.blank.parts }
