use Rattle.std.proofs.Common.{take}
use Rattle.std.specs.List.{AllZip}
use Rattle.bulk_rewrite.specs.NewNames.{IsRenamedSymbol}
use Rattle.bulk_rewrite.proofs.signs.new_symbols.Given as goal

abbrev pub invariant-names : goal.invariant-names
invariant-names l = AllZip (IsRenamedSymbol l.names l.name) (take l.symbol l.names) l.symbols.items
