use Rattle.start_fronts.proofs.Folded.{keeps-folding}
use Rattle.start_fronts.proofs.laws.folding_keeps_before.Goals as goal

pub returns : goal.returns
returns c = λ old new K. keeps-folding old new K
