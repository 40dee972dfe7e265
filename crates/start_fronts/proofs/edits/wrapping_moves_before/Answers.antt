use Rattle.start_fronts.proofs.Wrapped.{moves-wrapped, plain-leaves}
use Rattle.start_fronts.proofs.edits.wrapping_moves_before.Goals as goal

pub returns : goal.returns
returns c = record { moves = moves-wrapped; plain = plain-leaves }
