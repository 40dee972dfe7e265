use Rattle.std.proofs.Common.{◌≤◌, take}
use Rattle.slt_grammar.specs.Grammars.{size}
use Rattle.border_repair.specs.Folding.{AreFoldedBefore}
use Rattle.border_repair.proofs.folding.fold_all.Given as goal

abbrev pub invariant-rules : goal.invariant-rules
invariant-rules l = record {
  folded : AreFoldedBefore l.digram l.rules l.rule l.folded;
  few : size l.folded ≤ size (take l.rule l.rules);
}
