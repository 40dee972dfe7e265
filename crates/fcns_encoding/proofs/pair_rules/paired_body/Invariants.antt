use Rattle.std.proofs.Common.{◌≡◌, ◌++◌, ◌-◌, drop, length}
use Rattle.indexmap.specs.IndexMap.{keys}
use Rattle.fcns_encoding.specs.Pairs.{paired}
use Rattle.fcns_encoding.proofs.pair_rules.paired_body.Given as goal

abbrev pub invariant-loop-at : goal.invariant-loop-at
invariant-loop-at l = l.body ++ paired (keys l.pairs) l.above (drop l.at l.labels) ≡ paired (keys l.pairs) l.above l.labels

abbrev pub decreases-loop-at : goal.decreases-loop-at
decreases-loop-at l = length l.labels - l.at
