use Rattle.std.proofs.Common.{refl}
use Rattle.slt_grammar.specs.Grammars.{value}
use Rattle.slt_grammar.specs.Keyed.{rules_of}
use Rattle.segment_counts.specs.Weights.{node_weight}
use Rattle.rule_runs.proofs.Sizes.{nodes-weigh}
use Rattle.query_tests.proofs.marks.find.Goals as goal

pub new-requires-2-clause-small : goal.new-requires-2-clause-small
new-requires-2-clause-small g c = rw (nodes-weigh node_weight (λ f. refl) refl refl (value (rules_of c.args.grammar.now.rules))) c.in_ok-counts.ensures.few

pub list_hits-requires : goal.list_hits-requires
list_hits-requires g c = c.in_ok-run.ensures.listed.1 refl
