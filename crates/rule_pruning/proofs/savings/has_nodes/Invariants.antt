use Rattle.std.proofs.Common.{◌≡◌, ◌<◌, ◌+◌, length}
use Rattle.slt_grammar.specs.Bodies.{real_nodes}
use Rattle.slt_grammar.specs.Grammars.{body_at}
use Rattle.slt_grammar.specs.Keyed.{rules_of}
use Rattle.rule_pruning.proofs.savings.has_nodes.Given as goal

abbrev pub invariant-loop-label : goal.invariant-loop-label
invariant-loop-label g l = record {
  counted : l.size + real_nodes l.labels ≡ real_nodes (body_at (rules_of l.grammar.rules) l.rule);
  fewer : l.size < l.least;
}

abbrev pub decreases-loop-label : goal.decreases-loop-label
decreases-loop-label g l = length l.labels
