use Rattle.digram_index.specs.Linked.{IsIndexOf}
use Rattle.digram_index.specs.Marking.{KeepsMarked}
use Rattle.rule_pruning.proofs.Dissolved.{IsDissolving}
use Rattle.rule_pruning.proofs.dissolving.dissolve_up_to.Given as goal

abbrev pub invariant-loop : goal.invariant-loop
invariant-loop l = record {
  dissolving : IsDissolving l.fn.grammar.rules l.grammar.rules l.rule l.counter;
  index : IsIndexOf l.grammar l.index;
  marks : KeepsMarked l.fn.grammar.rules l.fn.index l.grammar.rules l.index;
}
