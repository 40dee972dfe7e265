use Rattle.std.proofs.Common.{◌≡◌}
use Rattle.segment_counts.specs.Weights.{count, node_weight}
use Rattle.slt_grammar.specs.Keyed.{rules_of}
use Rattle.rule_runs.proofs.Resting.{handed_from}
use Rattle.rule_runs.proofs.spent.spent_outcome.Given as goal

abbrev pub invariant-segments : goal.invariant-segments
invariant-segments g l = l.handed.items ≡ handed_from (count node_weight (rules_of l.grammar.rules) l.rule) l.spent.down 0 l.segment
