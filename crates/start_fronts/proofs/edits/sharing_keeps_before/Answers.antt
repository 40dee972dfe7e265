use Rattle.start_fronts.proofs.Shared.{keeps-shared}
use Rattle.start_fronts.proofs.edits.sharing_keeps_before.Goals as goal

pub returns : goal.returns
returns c = keeps-shared
