use Rattle.std.proofs.Common.{◌<◌, ℕ}
use Rattle.slt_grammar.specs.Digrams.{Saves}
use Rattle.slt_grammar.specs.Keyed.{rules_of}
use Rattle.rule_pruning.proofs.savings.all_save.Given as goal

abbrev pub invariant-loop-rule : goal.invariant-loop-rule
invariant-loop-rule l = (r : ℕ) → r < l.rule → Saves (rules_of l.grammar.rules) r
