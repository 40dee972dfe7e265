use Rattle.std.proofs.Common.{◌≡◌, ◌+◌, length, take}
use Rattle.std.specs.List.{sum_by}
use Rattle.slt_grammar.specs.Keyed.{rules_of}
use Rattle.slt_grammar.specs.declared.rules.Rule.{Rule}
use Rattle.path_isolation.proofs.measuring.nodes_elsewhere.Given as goal

abbrev pub invariant-loop-rule : goal.invariant-loop-rule
invariant-loop-rule g l = record {
  sum : l.nodes ≡ sum_by (λ (R : Rule). length R.body) (take l.rule (rules_of l.grammar.rules));
  steps : l.steps ≡ l.fn.steps + l.nodes;
}
