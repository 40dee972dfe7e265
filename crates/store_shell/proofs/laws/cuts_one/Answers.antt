use Rattle.store_shell.proofs.OneCut.{cut-one}
use Rattle.store_shell.proofs.laws.cuts_one.Goals as goal

pub returns : goal.returns
returns c = cut-one
