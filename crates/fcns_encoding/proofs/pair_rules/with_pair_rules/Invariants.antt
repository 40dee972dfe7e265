use Rattle.std.proofs.Common.{◌≡◌, ◌++◌, map, take}
use Rattle.fcns_encoding.specs.Pairs.{pair_rule}
use Rattle.fcns_encoding.proofs.pair_rules.with_pair_rules.Given as goal

abbrev pub invariant-loop-pair : goal.invariant-loop-pair
invariant-loop-pair l = l.all ≡ l.fn.rules ++ map pair_rule (take l.pair-index l.pairs)
