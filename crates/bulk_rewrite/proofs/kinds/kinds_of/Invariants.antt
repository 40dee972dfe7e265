use Rattle.std.proofs.Common.{◌≡◌, map, take}
use Rattle.bulk_rewrite.proofs.kinds.kinds_of.Given as goal

abbrev pub invariant-names : goal.invariant-names
invariant-names l = l.kinds.items ≡ map (λ p. p.0) (take l.symbol l.names)
