use Rattle.session_promises.proofs.making.generate_told.Goals as goal

pub returns : goal.returns
returns g c = c.command.ensures.step
