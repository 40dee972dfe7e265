use Rattle.std.proofs.Common.{arith, sym}
use Rattle.bulk_rewrite.specs.NewNames.{IsRenamedSymbol}
use Rattle.bulk_rewrite.proofs.Zips.{zip-push, zip-whole}
use Rattle.bulk_rewrite.proofs.signs.new_symbols.Goals as goal

pub names-preserved : goal.names-preserved
names-preserved c =
    zip-push (IsRenamedSymbol c.args.names.now c.args.name.now) c.args.names.now c.names.symbols.items c.push.new.self.items c.names.symbol (c.in-Some.kind, c.in-Some.field-0-1.now) c.new_symbol.result c.names.invariant (sym c.in-Some.ensures) (c.new_symbol.ensures c.in-Some.field-0-1.now) c.in_ok-push.ensures.items

pub returns : goal.returns
returns c =
    let e = c.len-symbol-end.ensures.value in
    let h = c.names-test.false in
    zip-whole (IsRenamedSymbol c.args.names.now c.args.name.now) c.args.names.now c.names.symbols.items c.names.symbol (omega arith) c.names.invariant
