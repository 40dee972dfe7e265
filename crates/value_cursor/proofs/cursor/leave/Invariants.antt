use Rattle.std.proofs.Common.{◌≡◌}
use Rattle.std.specs.Prelude.{vec_capacity}
use Rattle.value_cursor.proofs.Leaving.{Leaves}
use Rattle.value_cursor.proofs.cursor.leave.Given as goal

abbrev pub invariant-loop-call : goal.invariant-loop-call
invariant-loop-call g l = Leaves l.grammar.rules l.initial.calls.items l.calls.items × (vec_capacity l.calls ≡ vec_capacity l.initial.calls)

abbrev pub decreases-loop-call : goal.decreases-loop-call
decreases-loop-call g l = goal.left-loop-call g l
