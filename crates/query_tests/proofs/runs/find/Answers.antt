use Rattle.std.proofs.Common.{refl}
use Rattle.slt_grammar.specs.Grammars.{value}
use Rattle.slt_grammar.specs.Keyed.{rules_of}
use Rattle.segment_counts.specs.Weights.{node_weight}
use Rattle.rule_runs.proofs.Sizes.{nodes-weigh}
use Rattle.query_tests.proofs.runs.find.Goals as goal

pub fall-requires-clause-small : goal.fall-requires-clause-small
fall-requires-clause-small g c = rw (nodes-weigh node_weight (λ f. refl) refl refl (value (rules_of c.args.grammar.now.rules))) c.in_ok-_counts.ensures.few

pub list_numbers-requires : goal.list_numbers-requires
list_numbers-requires g c = c.in_ok-fallen.ensures.listed.1 refl

pub list_symbols-requires : goal.list_symbols-requires
list_symbols-requires g c = c.in_ok-fallen.ensures.listed.1 refl
