use Rattle.std.proofs.Common.{◌≡◌, ◌++◌, map, take, length}
use Rattle.fcns_encoding.specs.Leaves.{joined_rule}
use Rattle.fcns_encoding.proofs.leaf_rules.join_rules.Given as goal

abbrev pub invariant-loop-rule : goal.invariant-loop-rule
invariant-loop-rule l = l.shared ≡ l.fn.leaves ++ map (joined_rule l.places (length l.fn.leaves)) (take l.rule-index l.rules)
