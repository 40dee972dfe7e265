use Rattle.std.proofs.Common.{take}
use Rattle.std.specs.List.{AllZip}
use Rattle.bulk_rewrite.specs.NewNames.{TellsKnown}
use Rattle.bulk_rewrite.proofs.signs.known_signs.Given as goal

abbrev pub invariant-names : goal.invariant-names
invariant-names l = AllZip (TellsKnown l.names l.name) (take l.symbol l.names) l.signs.items
