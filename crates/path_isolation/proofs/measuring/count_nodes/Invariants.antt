use Rattle.std.proofs.Common.{◌≡◌, ◌+◌, take}
use Rattle.std.specs.List.{sum_by}
use Rattle.slt_grammar.specs.Grammars.{size}
use Rattle.slt_grammar.specs.Keyed.{rules_of}
use Rattle.slt_grammar.specs.declared.rules.Rule.{Rule}
use Rattle.path_isolation.proofs.measuring.count_nodes.Given as goal

abbrev pub invariant-loop-rule : goal.invariant-loop-rule
invariant-loop-rule l = l.nodes ≡ size (rules_of l.grammar.rules) + sum_by (λ (R : Rule). R.rank) (take l.rule (rules_of l.grammar.rules))
