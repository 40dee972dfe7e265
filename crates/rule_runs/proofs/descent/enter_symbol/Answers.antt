use Rattle.std.proofs.Common.{refl}
use Rattle.rule_runs.proofs.descent.enter_symbol.Goals as goal

pub returns-clause-marks : goal.returns-clause-marks
returns-clause-marks g c = rw (c.in_ok-push-2.ensures.top, c.in_ok-push.ensures.top) refl
