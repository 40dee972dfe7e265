use Rattle.std.proofs.Common.{◌≤◌, max}
use Rattle.slt_grammar.specs.Grammars.{size}
use Rattle.slt_grammar.specs.Keyed.{rules_of}
use Rattle.slt_grammar.specs.Ranks.{greatest_rank}
use Rattle.digram_index.specs.Linked.{IsIndexOf}
use Rattle.digram_index.specs.Marking.{KeepsMarked}
use Rattle.local_repair.specs.Settling.{IsNoLarger}
use Rattle.local_repair.proofs.settling.replace_all.Given as goal

abbrev pub invariant-loop-digram : goal.invariant-loop-digram
invariant-loop-digram l = record {
  kept : IsNoLarger (rules_of l.initial.grammar.rules) (rules_of l.grammar.rules);
  ranks : greatest_rank (rules_of l.grammar.rules) ≤ max l.fn.bound (greatest_rank (rules_of l.initial.grammar.rules));
  index : IsIndexOf l.grammar l.index;
  marks : KeepsMarked l.initial.grammar.rules l.initial.index l.grammar.rules l.index;
}

abbrev pub decreases-loop-digram : goal.decreases-loop-digram
decreases-loop-digram l = size (rules_of l.grammar.rules)
