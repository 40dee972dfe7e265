use Rattle.linked_edits.proofs.wrapping.wrap_linked.Given as goal

abbrev pub ghosts-link_run : goal.ghosts-link_run
ghosts-link_run a = record { name = a.blank.name; parts = a.blank.parts }
