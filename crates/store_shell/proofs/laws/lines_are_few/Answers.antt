use Rattle.store_shell.proofs.OneCut.{cut-few}
use Rattle.store_shell.proofs.laws.lines_are_few.Goals as goal

pub returns : goal.returns
returns c = cut-few
