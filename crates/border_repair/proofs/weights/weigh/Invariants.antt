use Rattle.slt_grammar.specs.Keyed.{rules_of}
use Rattle.border_repair.proofs.UnderWay.{IsUnderWay}
use Rattle.border_repair.proofs.weights.weigh.Given as goal

abbrev pub invariant-downward : goal.invariant-downward
invariant-downward g l = IsUnderWay (rules_of l.grammar.rules) l.rims l.left l.uses.items l.counts.entries

abbrev pub decreases-downward : goal.decreases-downward
decreases-downward g l = l.left
