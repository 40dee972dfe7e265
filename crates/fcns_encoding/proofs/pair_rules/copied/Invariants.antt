use Rattle.std.proofs.Common.{◌≡◌, take}
use Rattle.fcns_encoding.proofs.pair_rules.copied.Given as goal

abbrev pub invariant-loop-label : goal.invariant-loop-label
invariant-loop-label l = l.body ≡ take l.label-index l.labels
