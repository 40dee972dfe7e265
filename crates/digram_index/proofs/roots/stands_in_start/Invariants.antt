use Rattle.digram_index.proofs.Climbs.{all_before}
use Rattle.digram_index.proofs.RootClimbs.{AreInOne}
use Rattle.digram_index.proofs.roots.stands_in_start.Given as goal

abbrev pub invariant-loop-here : goal.invariant-loop-here
invariant-loop-here l = AreInOne l.grammar l.fn.key l.here

abbrev pub decreases-loop-here : goal.decreases-loop-here
decreases-loop-here l = all_before l.grammar.rules l.here.number
