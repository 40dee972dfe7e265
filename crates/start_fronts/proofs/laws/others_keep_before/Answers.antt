use Rattle.start_fronts.proofs.Alike.{keeps-alike}
use Rattle.start_fronts.proofs.Renumbered.{keeps-elsewhere}
use Rattle.start_fronts.proofs.laws.others_keep_before.Goals as goal

pub returns : goal.returns
returns c = record { start = keeps-alike; rule = keeps-elsewhere }
