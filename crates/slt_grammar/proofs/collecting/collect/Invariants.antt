use Rattle.std.proofs.Common.{◌≡◌, ◌-◌, ◌≤◌, List, Some, length, vec_capacity}
use Rattle.rule_arena.specs.Terms.{Node, term_at, or_nothing}
use Rattle.slt_grammar.proofs.Collections.{IsRead}
use Rattle.slt_grammar.proofs.collecting.collect.Given as goal

abbrev pub invariant-loop-at : goal.invariant-loop-at
invariant-loop-at l = record {
  read : (ns : List Node) → term_at l.arena l.fn.root.number ≡ Some ns → IsRead ns l.shapes.items l.at;
  capacity : vec_capacity l.fn.shapes ≤ vec_capacity l.shapes;
}

abbrev pub decreases-loop-at : goal.decreases-loop-at
decreases-loop-at l = length (or_nothing (term_at l.arena l.fn.root.number)) - length l.shapes.items
