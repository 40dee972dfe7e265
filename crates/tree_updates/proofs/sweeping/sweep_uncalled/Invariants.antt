use Rattle.std.proofs.Common.{◌≡◌, ◌+◌, ◌<◌, ◌≤◌, ℕ, List, [], length}
use Rattle.plain_tree.specs.declared.kind.Kind.{Kind}
use Rattle.slt_grammar.specs.Grammars.{calls_of, size, value}
use Rattle.slt_grammar.specs.Keyed.{rules_of}
use Rattle.slt_grammar.specs.Ranks.{greatest_rank}
use Rattle.start_fronts.specs.Before.{KeepsBefore}
use Rattle.digram_index.specs.Linked.{IsIndexOf}
use Rattle.segment_counts.specs.Counting.{AreCounts}
use Rattle.tree_updates.proofs.sweeping.sweep_uncalled.Given as goal

abbrev pub invariant-loop-rule : goal.invariant-loop-rule
invariant-loop-rule l = record {
  index : IsIndexOf l.grammar l.index;
  value : value (rules_of l.grammar.rules) ≡ value (rules_of l.initial.grammar.rules);
  size : size (rules_of l.grammar.rules) ≤ size (rules_of l.initial.grammar.rules);
  ranks : greatest_rank (rules_of l.grammar.rules) ≤ greatest_rank (rules_of l.initial.grammar.rules);
  fewer : length l.grammar.rules ≤ length l.initial.grammar.rules;
  some : l.rule + 1 ≤ length l.grammar.rules;
  called : (q : ℕ) → l.rule ≤ q → q + 1 < length l.grammar.rules → 0 < calls_of (rules_of l.grammar.rules) q;
  counts : (names : List (Kind × List ℕ)) → AreCounts names (rules_of l.initial.grammar.rules) l.initial.counts → AreCounts names (rules_of l.grammar.rules) l.counts;
  before : KeepsBefore [] l.initial.grammar.rules l.grammar.rules;
  spare_nodes : l.initial.grammar.spare_nodes ≤ l.grammar.spare_nodes;
  spare_rules : l.initial.grammar.spare_rules ≤ l.grammar.spare_rules;
  limit : l.grammar.limit ≡ l.initial.grammar.limit;
  links : l.index.spare_links ≡ l.initial.index.spare_links;
  numbers : l.initial.index.spare_rules ≤ l.index.spare_rules;
  cells : length l.index.cells ≡ length l.initial.index.cells;
  room : length l.counts.rows ≡ length l.initial.counts.rows;
}
