use Rattle.std.proofs.Common.{◌≤◌, max}
use Rattle.slt_grammar.specs.Grammars.{size, IsSwept}
use Rattle.slt_grammar.specs.Keyed.{rules_of}
use Rattle.slt_grammar.specs.Ranks.{greatest_rank}
use Rattle.digram_index.specs.Linked.{IsIndexOf}
use Rattle.digram_index.specs.Marking.{KeepsMarked}
use Rattle.rule_pruning.specs.Saving.{AllSave}
use Rattle.local_repair.specs.Settling.{IsNoLarger}
use Rattle.local_repair.proofs.settling.alternate.Given as goal

abbrev pub invariant-loop-digram : goal.invariant-loop-digram
invariant-loop-digram l = record {
  swept : IsSwept (rules_of l.grammar.rules);
  save : AllSave (rules_of l.grammar.rules);
  kept : IsNoLarger (rules_of l.fn.grammar.rules) (rules_of l.grammar.rules);
  ranks : greatest_rank (rules_of l.grammar.rules) ≤ max l.fn.bound (greatest_rank (rules_of l.fn.grammar.rules));
  index : IsIndexOf l.grammar l.index;
  marks : KeepsMarked l.fn.grammar.rules l.fn.index l.grammar.rules l.index;
}

abbrev pub decreases-loop-digram : goal.decreases-loop-digram
decreases-loop-digram l = size (rules_of l.grammar.rules)
