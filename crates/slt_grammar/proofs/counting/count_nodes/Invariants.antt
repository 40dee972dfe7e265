use Rattle.std.proofs.Common.{◌≡◌, take}
use Rattle.slt_grammar.specs.Grammars.{size}
use Rattle.slt_grammar.proofs.counting.count_nodes.Given as goal

abbrev pub invariant-loop-rule : goal.invariant-loop-rule
invariant-loop-rule l = l.size ≡ size (take l.rule l.rules)
