use Rattle.std.proofs.Common.{◌≡◌}
use Rattle.pair_replace.specs.Chains.{IsLinkedAs, upper_at}
use Rattle.digram_index.proofs.Climbs.{all_before}
use Rattle.pair_replace.proofs.occurrences.head.Given as goal

abbrev pub invariant-loop-first : goal.invariant-loop-first
invariant-loop-first l = record { linked : IsLinkedAs l.index l.digram l.first.number; upper : l.above.number ≡ upper_at l.index l.first.number }

abbrev pub decreases-loop-first : goal.decreases-loop-first
decreases-loop-first l = all_before l.grammar.rules l.first.number
