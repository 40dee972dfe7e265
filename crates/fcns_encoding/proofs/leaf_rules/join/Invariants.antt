use Rattle.std.proofs.Common.{◌≡◌, ◌++◌, ◌-◌, drop, length}
use Rattle.fcns_encoding.specs.Leaves.{joined}
use Rattle.fcns_encoding.proofs.leaf_rules.join.Given as goal

abbrev pub invariant-loop-at : goal.invariant-loop-at
invariant-loop-at l = l.body ++ joined l.places l.above (drop l.at l.labels) ≡ joined l.places l.above l.labels

abbrev pub decreases-loop-at : goal.decreases-loop-at
decreases-loop-at l = length l.labels - l.at
