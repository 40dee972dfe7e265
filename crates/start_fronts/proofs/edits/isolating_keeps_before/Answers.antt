use Rattle.start_fronts.proofs.Isolated.{begins, goes-on}
use Rattle.start_fronts.proofs.edits.isolating_keeps_before.Goals as goal

pub returns : goal.returns
returns c = record { begins = begins; goes_on = goes-on }
