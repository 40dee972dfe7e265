use Rattle.std.proofs.Common.{◌≡◌, ◌≤◌, ◌+◌, ◌-◌, length}
use Rattle.slt_grammar.specs.Keyed.{key_at, nodes_at}
use Rattle.path_isolation.proofs.measuring.body_length.Given as goal

abbrev pub invariant-loop-next : goal.invariant-loop-next
invariant-loop-next g l = record {
  there : key_at l.grammar.rules l.rule l.nodes ≡ l.next;
  few : l.nodes ≤ length (nodes_at l.grammar.rules l.rule);
  steps : l.steps ≡ l.fn.steps + l.nodes;
}

abbrev pub decreases-loop-next : goal.decreases-loop-next
decreases-loop-next g l = length (nodes_at l.grammar.rules l.rule) - l.nodes
