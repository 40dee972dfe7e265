use Rattle.std.proofs.Common.{◌≡◌, drop}
use Rattle.content_models.specs.Checking.{next_sets}
use Rattle.content_models.proofs.marking.next_sets.Given as goal

abbrev pub invariant-row : goal.invariant-row
invariant-row l = next_sets l.sets l.ended (drop l.spot-index l.row) l.next ≡ next_sets l.sets l.ended l.row l.initial.next
