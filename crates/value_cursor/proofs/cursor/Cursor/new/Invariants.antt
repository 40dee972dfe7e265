use Rattle.std.proofs.Common.{length}
use Rattle.std.specs.Prelude.{vec_capacity}
use Rattle.preorder_address.specs.Descents.{levels_of}
use Rattle.value_cursor.proofs.Beginning.{Descends}
use Rattle.value_cursor.proofs.cursor.Cursor.new.Given as goal

abbrev pub invariant-loop-stop : goal.invariant-loop-stop
invariant-loop-stop g l = Descends l.grammar.rules l.number l.descent l.calls.items (vec_capacity l.calls)

abbrev pub decreases-loop-stop : goal.decreases-loop-stop
decreases-loop-stop g l = length (levels_of l.grammar.rules l.descent)
