use Rattle.std.proofs.Common.{length}
use Rattle.preorder_address.specs.Descents.{IsInside, levels_of}
use Rattle.grammar_tests.proofs.descents.places_to.Given as goal

abbrev pub invariant-loop-level : goal.invariant-loop-level
invariant-loop-level g l = IsInside l.grammar.rules l.descent

abbrev pub decreases-loop-level : goal.decreases-loop-level
decreases-loop-level g l = length (levels_of l.grammar.rules l.descent)
