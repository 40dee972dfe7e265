use Rattle.std.proofs.Common.{◌<◌, ◌⊎◌, ℕ, get_or}
use Rattle.fcns_encoding.specs.Leaves.{HasLeaf}
use Rattle.fcns_encoding.proofs.leaf_rules.count_in.Given as goal

abbrev pub invariant-loop-at : goal.invariant-loop-at
invariant-loop-at l = (f : ℕ) → 0 < get_or l.counts f 0 → (0 < get_or l.fn.counts f 0) ⊎ HasLeaf f l.labels
