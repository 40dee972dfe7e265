use Rattle.value_cursor.specs.Work.{work_of}
use Rattle.value_cursor.proofs.Telling.{Leads}
use Rattle.value_cursor.proofs.cursor.Cursor.next_left.Given as goal

abbrev pub invariant-loop-self : goal.invariant-loop-self
invariant-loop-self g l = Leads l.grammar.rules l.fn.self l.self

abbrev pub decreases-loop-self : goal.decreases-loop-self
decreases-loop-self g l = work_of l.grammar.rules l.self
