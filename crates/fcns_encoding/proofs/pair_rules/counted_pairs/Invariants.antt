use Rattle.indexmap.specs.IndexMap.{keys}
use Rattle.fcns_encoding.specs.Pairs.{AreFound}
use Rattle.fcns_encoding.proofs.pair_rules.counted_pairs.Given as goal

abbrev pub invariant-loop-at : goal.invariant-loop-at
invariant-loop-at l = AreFound l.rules l.labels (keys l.pairs)
