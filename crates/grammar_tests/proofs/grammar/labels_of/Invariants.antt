use Rattle.std.proofs.Common.{length}
use Rattle.grammar_tests.proofs.grammar.labels_of.Given as goal

abbrev pub decreases-loop-label : goal.decreases-loop-label
decreases-loop-label g l = length l.walk
