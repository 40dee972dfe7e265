use Rattle.std.proofs.Common.{◌≡◌, ◌≤◌, ◌+◌, length}
use Rattle.path_isolation.specs.Chains.{weight_of}
use Rattle.path_isolation.specs.Isolations.{room_along}
use Rattle.path_isolation.proofs.Lengths.{AreOfRules}
use Rattle.path_isolation.proofs.measuring.nodes_along.Given as goal

abbrev pub invariant-loop-level : goal.invariant-loop-level
invariant-loop-level g l = record {
  ready : g.W.Way.ready l.way l.grammar.rules;
  rules : AreOfRules l.grammar.rules (g.W.Way.levels l.way l.grammar.rules);
  sum : l.nodes + weight_of length l.grammar.rules (g.W.Way.levels l.way l.grammar.rules) ≡ room_along l.grammar.rules (g.W.Way.levels l.fn.way l.grammar.rules);
  steps : l.steps + g.W.Way.most l.way l.grammar.rules ≤ l.fn.steps + (g.W.Way.most l.fn.way l.grammar.rules + l.nodes);
}

abbrev pub decreases-loop-level : goal.decreases-loop-level
decreases-loop-level g l = length (g.W.Way.levels l.way l.grammar.rules)
