use Rattle.std.proofs.Common.{◌≡◌}
use Rattle.slt_grammar.specs.Keyed.{rules_of}
use Rattle.slt_grammar.specs.Ranks.{greatest_rank}
use Rattle.digram_index.specs.Linked.{IsIndexOf}
use Rattle.digram_index.specs.Marking.{KeepsMarked}
use Rattle.local_repair.specs.Settling.{IsNoLarger}
use Rattle.local_repair.proofs.reusing.reuse_rules.Given as goal

abbrev pub invariant-loop : goal.invariant-loop
invariant-loop l = record {
  kept : IsNoLarger (rules_of l.fn.grammar.rules) (rules_of l.grammar.rules);
  ranks : greatest_rank (rules_of l.grammar.rules) ≡ greatest_rank (rules_of l.fn.grammar.rules);
  index : IsIndexOf l.grammar l.index;
  marks : KeepsMarked l.fn.grammar.rules l.fn.index l.grammar.rules l.index;
}
