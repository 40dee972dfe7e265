use Rattle.std.proofs.Common.{refl}
use Rattle.slt_grammar.specs.Grammars.{value}
use Rattle.slt_grammar.specs.Keyed.{rules_of}
use Rattle.segment_counts.specs.Weights.{node_weight}
use Rattle.rule_runs.proofs.Sizes.{nodes-weigh}
use Rattle.grammar_tests.proofs.borders.weights_of.Goals as goal

pub new-requires-3 : goal.new-requires-3
new-requires-3 c = rw (nodes-weigh node_weight (λ f. refl) refl refl (value (rules_of c.args.grammar.now.rules))) c.in_ok-_counts.ensures.few
