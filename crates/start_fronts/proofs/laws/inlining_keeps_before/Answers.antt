use Rattle.start_fronts.proofs.Inlined.{keeps-inlining}
use Rattle.start_fronts.proofs.laws.inlining_keeps_before.Goals as goal

pub returns : goal.returns
returns c = λ old new K M. keeps-inlining old new K M
