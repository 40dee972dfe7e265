use Rattle.session_promises.proofs.answers.show_told.Goals as goal

pub returns : goal.returns
returns g c = c.command.ensures.step
