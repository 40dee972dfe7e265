use Rattle.session_promises.proofs.files.load_grammar_told.Goals as goal

pub returns : goal.returns
returns g c = c.command.ensures.step
