use Rattle.start_fronts.proofs.Composing.{keeps-all, keeps-both}
use Rattle.start_fronts.proofs.laws.changes_compose.Goals as goal

pub returns : goal.returns
returns c = record { none = keeps-all; both = keeps-both }
