use Rattle.std.proofs.Common.{◌≡◌, ◌<◌, ◌+◌, ℕ, drop, get_or, length}
use Rattle.slt_grammar.specs.Keyed.{rules_of}
use Rattle.segment_counts.specs.Counting.{AreCountsBelow, no_row}
use Rattle.segment_counts.proofs.following.append_rows.Given as goal

abbrev pub invariant-loop-rule : goal.invariant-loop-rule
invariant-loop-rule g l = record {
  counts : AreCountsBelow l.names l.rule (rules_of l.grammar.rules) (drop (length l.before) l.counts.rows);
  first : (q : ℕ) → q < length l.before → get_or l.counts.rows q no_row ≡ get_or l.initial.counts.rows q no_row;
  rules : l.counts.rules ≡ length l.before + l.rule;
  room : length l.counts.rows ≡ length l.initial.counts.rows;
}
