use Rattle.start_fronts.proofs.Holes.{hole-behind}
use Rattle.start_fronts.proofs.edits.holes_stand_behind.Goals as goal

pub returns : goal.returns
returns c = hole-behind
