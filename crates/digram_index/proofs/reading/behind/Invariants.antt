use Rattle.digram_index.proofs.Behind.{IsClimbing, height}
use Rattle.digram_index.proofs.reading.behind.Given as goal

abbrev pub invariant-loop-above : goal.invariant-loop-above
invariant-loop-above l = IsClimbing l.grammar l.fn.key l.above

abbrev pub decreases-loop-above : goal.decreases-loop-above
decreases-loop-above l = height l.grammar l.above
