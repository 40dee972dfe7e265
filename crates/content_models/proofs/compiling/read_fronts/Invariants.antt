use Rattle.content_models.specs.Passing.{fronts_in}
use Rattle.content_models.proofs.Placing.{Passed}
use Rattle.content_models.proofs.compiling.read_fronts.Given as goal

abbrev pub invariant-ops : goal.invariant-ops
invariant-ops l = Passed l.code l.fronts.items l.pass.at (fronts_in l.pass) l.op-index
