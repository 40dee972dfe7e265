use Rattle.start_marks.proofs.Weights.{weights-before}
use Rattle.start_marks.proofs.laws.stops_weigh_their_labels.Goals as goal

pub returns : goal.returns
returns c = weights-before
