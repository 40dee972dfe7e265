use Rattle.std.proofs.Common.{arith, sym}
use Rattle.bulk_rewrite.specs.NewNames.{TellsKnown}
use Rattle.bulk_rewrite.proofs.Zips.{zip-push, zip-whole}
use Rattle.bulk_rewrite.proofs.signs.known_signs.Goals as goal

pub names-preserved : goal.names-preserved
names-preserved c =
    zip-push (TellsKnown c.args.names.now c.args.name.now) c.args.names.now c.names.signs.items c.push.new.self.items c.names.symbol (c.in-Some.kind, c.in-Some.field-0-1.now) c.known_sign.result c.names.invariant (sym c.in-Some.ensures) (c.known_sign.ensures c.in-Some.field-0-1.now) c.in_ok-push.ensures.items

pub returns : goal.returns
returns c =
    let e = c.len-symbol-end.ensures.value in
    let h = c.names-test.false in
    zip-whole (TellsKnown c.args.names.now c.args.name.now) c.args.names.now c.names.signs.items c.names.symbol (omega arith) c.names.invariant
