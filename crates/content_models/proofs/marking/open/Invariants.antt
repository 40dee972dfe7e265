use Rattle.std.proofs.Common.{◌≡◌, drop}
use Rattle.content_models.specs.Checking.{opened}
use Rattle.content_models.proofs.marking.open.Given as goal

abbrev pub invariant-row : goal.invariant-row
invariant-row l = opened (drop l.spot-index l.row) l.left l.sets ≡ opened l.row l.bits l.initial.sets
