use Rattle.std.proofs.Common.{◌≤◌, ◌+◌, length}
use Rattle.content_models.specs.Machine.{at_of}
use Rattle.content_models.proofs.Feeding.{Fed}
use Rattle.content_models.proofs.model_reading.read_model.Given as goal

abbrev pub invariant-loop-rest : goal.invariant-loop-rest
invariant-loop-rest l = record { fed : Fed l.bytes l.rest (at_of l.machine) l.nesting; room : l.nesting.current + length l.rest ≤ l.total }

abbrev pub decreases-loop-rest : goal.decreases-loop-rest
decreases-loop-rest l = length l.rest
