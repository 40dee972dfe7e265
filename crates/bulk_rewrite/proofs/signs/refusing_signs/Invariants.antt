use Rattle.std.proofs.Common.{take}
use Rattle.std.specs.List.{AllZip}
use Rattle.bulk_rewrite.specs.Refusing.{IsSignFor}
use Rattle.bulk_rewrite.proofs.signs.refusing_signs.Given as goal

abbrev pub invariant-names : goal.invariant-names
invariant-names l = AllZip (IsSignFor l.name) (take l.symbol l.names) l.signs.items
