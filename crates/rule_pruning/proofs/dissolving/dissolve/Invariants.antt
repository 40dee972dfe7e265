use Rattle.digram_index.specs.Linked.{IsIndexOf}
use Rattle.digram_index.specs.Marking.{KeepsMarked}
use Rattle.rule_pruning.proofs.Dissolved.{IsWithout}
use Rattle.rule_pruning.proofs.dissolving.dissolve.Given as goal

abbrev pub invariant-loop : goal.invariant-loop
invariant-loop l = record {
  without : IsWithout l.fn.grammar.rules l.grammar.rules;
  index : IsIndexOf l.grammar l.index;
  marks : KeepsMarked l.fn.grammar.rules l.fn.index l.grammar.rules l.index;
}
