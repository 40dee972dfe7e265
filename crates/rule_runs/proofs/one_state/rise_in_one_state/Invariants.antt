use Rattle.std.proofs.Common.{◌≡◌}
use Rattle.slt_grammar.specs.Keyed.{rules_of}
use Rattle.rule_runs.proofs.OneState.{table}
use Rattle.rule_runs.proofs.one_state.rise_in_one_state.Given as goal

abbrev pub invariant-rules : goal.invariant-rules
invariant-rules g l = l.known ≡ table (g.A.Rising.algebra l.automaton) (rules_of l.grammar.rules) l.rule
