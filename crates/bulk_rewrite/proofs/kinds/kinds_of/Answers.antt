use Rattle.std.proofs.Common.{arith, sym, ap, map, take_all, ◌∙◌}
use Rattle.bulk_rewrite.proofs.DeletingAll.{kinds-push}
use Rattle.bulk_rewrite.proofs.kinds.kinds_of.Goals as goal

pub names-preserved : goal.names-preserved
names-preserved c = kinds-push c.args.names.now c.names.kinds.items c.push.new.self.items c.names.symbol (c.in-Some.kind, c.in-Some.field-0-1.now) c.names.invariant (sym c.in-Some.ensures) c.in_ok-push.ensures.items

pub returns : goal.returns
returns c =
    let e = c.len-symbol-end.ensures.value in
    let h = c.names-test.false in
    c.names.invariant ∙ ap (map (λ p. p.0)) (take_all c.names.symbol c.args.names.now (omega arith))
