use Rattle.std.proofs.Common.{◌≤◌, max}
use Rattle.slt_grammar.specs.Keyed.{rules_of}
use Rattle.slt_grammar.specs.Ranks.{greatest_rank}
use Rattle.digram_index.specs.Linked.{IsIndexOf}
use Rattle.digram_index.specs.Marking.{KeepsMarked}
use Rattle.local_repair.specs.Settling.{IsLargerAtMost}
use Rattle.local_repair.proofs.settling.replace_twice.Given as goal

abbrev pub invariant-loop-done : goal.invariant-loop-done
invariant-loop-done l = record {
  kept : IsLargerAtMost l.done (rules_of l.fn.grammar.rules) (rules_of l.grammar.rules);
  ranks : greatest_rank (rules_of l.grammar.rules) ≤ max l.fn.bound (greatest_rank (rules_of l.fn.grammar.rules));
  index : IsIndexOf l.grammar l.index;
  marks : KeepsMarked l.fn.grammar.rules l.fn.index l.grammar.rules l.index;
}
