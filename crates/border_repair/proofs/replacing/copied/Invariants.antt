use Rattle.std.proofs.Common.{◌≡◌, take}
use Rattle.border_repair.proofs.replacing.copied.Given as goal

abbrev pub invariant-labels : goal.invariant-labels
invariant-labels l = l.body ≡ take l.label-index l.labels
