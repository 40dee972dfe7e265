use Rattle.std.proofs.Common.{◌≡◌, ◌+◌, ◌<◌, ◌≤◌, ℕ, length}
use Rattle.slt_grammar.specs.Grammars.{calls_of, size, value}
use Rattle.slt_grammar.specs.Keyed.{rules_of}
use Rattle.slt_grammar.specs.Ranks.{greatest_rank}
use Rattle.digram_index.specs.Linked.{IsIndexOf}
use Rattle.digram_index.specs.Marking.{KeepsMarked}
use Rattle.rule_pruning.proofs.pruning.sweep.Given as goal

abbrev pub invariant-loop-rule : goal.invariant-loop-rule
invariant-loop-rule l = record {
  index : IsIndexOf l.grammar l.index;
  marks : KeepsMarked l.initial.grammar.rules l.initial.index l.grammar.rules l.index;
  value : value (rules_of l.grammar.rules) ≡ value (rules_of l.initial.grammar.rules);
  size : size (rules_of l.grammar.rules) ≤ size (rules_of l.initial.grammar.rules);
  fewer : length l.grammar.rules ≤ length l.initial.grammar.rules;
  ranks : greatest_rank (rules_of l.grammar.rules) ≤ greatest_rank (rules_of l.initial.grammar.rules);
  some : l.rule + 1 ≤ length l.grammar.rules;
  called : (q : ℕ) → l.rule ≤ q → q + 1 < length l.grammar.rules → 0 < calls_of (rules_of l.grammar.rules) q;
}
