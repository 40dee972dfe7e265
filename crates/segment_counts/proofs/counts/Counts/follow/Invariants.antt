use Rattle.segment_counts.proofs.counts.Counts.follow.Given as goal

abbrev pub ghosts-append_rows : goal.ghosts-append_rows
ghosts-append_rows a = record { name = a.blank.name; parts = a.blank.parts }
