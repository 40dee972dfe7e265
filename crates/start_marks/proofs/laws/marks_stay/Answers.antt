use Rattle.start_marks.proofs.Weights.{mark-stays}
use Rattle.start_marks.proofs.laws.marks_stay.Goals as goal

pub returns : goal.returns
returns c = mark-stays
