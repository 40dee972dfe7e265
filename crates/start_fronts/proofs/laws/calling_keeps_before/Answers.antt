use Rattle.start_fronts.proofs.Called.{keeps-calling}
use Rattle.start_fronts.proofs.laws.calling_keeps_before.Goals as goal

pub returns : goal.returns
returns c = λ old new K M. keeps-calling old new K M
