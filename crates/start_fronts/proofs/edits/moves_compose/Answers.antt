use Rattle.start_fronts.proofs.Moving.{kept-then-moved, moved-then-kept, old-keys-go}
use Rattle.start_fronts.proofs.Windows.{nothing-moves}
use Rattle.start_fronts.proofs.edits.moves_compose.Goals as goal

pub returns : goal.returns
returns c = record { kept = kept-then-moved; moved = moved-then-kept; none = nothing-moves; fewer = old-keys-go }
