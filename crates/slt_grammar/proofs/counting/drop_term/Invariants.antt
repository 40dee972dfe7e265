use Rattle.std.proofs.Common.{◌≡◌, ◌-◌, List, Some, length}
use Rattle.rule_arena.specs.Terms.{Node, term_at, or_nothing}
use Rattle.slt_grammar.proofs.Dropped.{IsDropped}
use Rattle.slt_grammar.proofs.counting.drop_term.Given as goal

abbrev pub invariant-loop-at : goal.invariant-loop-at
invariant-loop-at l = (ns : List Node) → term_at l.arena l.fn.root.number ≡ Some ns → IsDropped l.order.order ns l.initial.calls l.calls l.at l.nodes l.params

abbrev pub decreases-loop-at : goal.decreases-loop-at
decreases-loop-at l = length (or_nothing (term_at l.arena l.fn.root.number)) - l.nodes
