use Rattle.session_promises.proofs.making.repair_wide_told.Goals as goal

pub returns : goal.returns
returns g c = c.command.ensures.step
