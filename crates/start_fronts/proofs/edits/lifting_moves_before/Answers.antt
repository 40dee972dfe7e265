use Rattle.start_fronts.proofs.Lifted.{moves-lifted}
use Rattle.start_fronts.proofs.edits.lifting_moves_before.Goals as goal

pub returns : goal.returns
returns c = moves-lifted
