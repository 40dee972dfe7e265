use Rattle.std.proofs.Common.{◌≡◌, length}
use Rattle.slt_grammar.specs.Keyed.{rules_of}
use Rattle.segment_counts.specs.Counting.{AreCountsBelow}
use Rattle.segment_counts.proofs.counting.count_first.Given as goal

abbrev pub invariant-loop-rule : goal.invariant-loop-rule
invariant-loop-rule g l = record {
  counts : AreCountsBelow l.names l.rule (rules_of l.grammar.rules) l.counts.rows;
  rules : l.counts.rules ≡ l.rule;
  room : length l.counts.rows ≡ length l.initial.counts.rows;
}
