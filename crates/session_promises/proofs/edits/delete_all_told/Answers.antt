use Rattle.session_promises.proofs.edits.delete_all_told.Goals as goal

pub returns : goal.returns
returns g c = c.command.ensures.step
