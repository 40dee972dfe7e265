use Rattle.std.proofs.Common.{◌≤◌, Some}
use Rattle.value_cursor.specs.Finders.{IsSearch}
use Rattle.value_cursor.specs.Work.{work_at}
use Rattle.value_cursor.proofs.finder.Finder.go_to.Given as goal

abbrev pub invariant-loop : goal.invariant-loop
invariant-loop g l = record { search : IsSearch l.names l.grammar.rules l.self; before : l.self.passed.nodes ≤ l.number }

abbrev pub decreases-loop : goal.decreases-loop
decreases-loop g l = work_at l.grammar.rules (Some l.self.here) l.self.calls.items
