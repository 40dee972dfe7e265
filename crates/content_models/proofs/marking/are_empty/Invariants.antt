use Rattle.std.proofs.Common.{◌≡◌, drop}
use Rattle.std.specs.Prelude.{◌==◌}
use Rattle.std.specs.List.{list_all}
use Rattle.content_models.proofs.marking.are_empty.Given as goal

abbrev pub invariant-sets : goal.invariant-sets
invariant-sets l = list_all (λ w. w == 0) (drop l.set-index l.sets) ≡ list_all (λ w. w == 0) l.sets
