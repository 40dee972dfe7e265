use Rattle.start_fronts.proofs.Relabelled.{moves-relabelled}
use Rattle.start_fronts.proofs.edits.relabelling_moves_before.Goals as goal

pub returns : goal.returns
returns c = moves-relabelled
