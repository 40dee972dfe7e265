use Rattle.store_shell.proofs.Runs.{Run-lawful}
use Rattle.store_shell.proofs.laws.runs_stay_lawful.Goals as goal

pub returns : goal.returns
returns c = Run-lawful
