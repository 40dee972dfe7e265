use Rattle.start_fronts.proofs.Renumbered.{keeps-dropping, keeps-putting, keeps-sweeping}
use Rattle.start_fronts.proofs.laws.renumbering_keeps_before.Goals as goal

pub returns : goal.returns
returns c = record { put = keeps-putting; dropped = keeps-dropping; swept = keeps-sweeping }
