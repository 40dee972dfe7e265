use Rattle.session_promises.proofs.answers.count_reads_told.Goals as goal

pub returns : goal.returns
returns g c = c.command.ensures.reads
