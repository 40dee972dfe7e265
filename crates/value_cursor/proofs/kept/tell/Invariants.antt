use Rattle.std.proofs.Common.{◌≤◌, [], ◌∷◌, ◌++◌, Some, length}
use Rattle.std.specs.Prelude.{vec_capacity}
use Rattle.value_cursor.specs.Cursors.{left_at}
use Rattle.value_cursor.specs.Kept.{Told}
use Rattle.value_cursor.specs.Stops.{AreStops}
use Rattle.value_cursor.specs.Work.{work_at}
use Rattle.value_cursor.proofs.kept.tell.Given as goal

abbrev pub invariant-loop-here : goal.invariant-loop-here
invariant-loop-here g l = record {
  told : Told (left_at l.grammar.rules (Some l.initial.here) l.initial.calls.items) (left_at l.grammar.rules (Some l.here) l.calls.items) l.initial.tokens.items l.tokens.items;
  stops : AreStops l.grammar.rules (length l.grammar.rules) (l.calls.items ++ l.here ∷ []);
  room : length l.grammar.rules ≤ vec_capacity l.calls;
  places : 16384 ≤ vec_capacity l.tokens;
}

abbrev pub decreases-loop-here : goal.decreases-loop-here
decreases-loop-here g l = work_at l.grammar.rules (Some l.here) l.calls.items
