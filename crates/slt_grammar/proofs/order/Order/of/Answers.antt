use Rattle.std.proofs.Common.{◌≡◌, refl, subst, arith}
use Rattle.slt_grammar.proofs.Orders.{AreOwnPlaces, own-order, own-there, own-place}
use Rattle.slt_grammar.proofs.order.Order.of.Goals as goal

pub invariant_of-result : goal.invariant_of-result
invariant_of-result c =
    let e : c.loop-id.id ≡ c.args.rules = omega (arith, c.loop-id-test.false, c.loop-id.auto.id-end) in
    own-order c.loop-id.ids.items c.loop-id.places.items c.args.rules (subst (AreOwnPlaces c.loop-id.ids.items) e c.loop-id.invariant.ids) c.loop-id.invariant.places

pub returns-clause-there : goal.returns-clause-there
returns-clause-there c =
    let e : c.loop-id.id ≡ c.args.rules = omega (arith, c.loop-id-test.false, c.loop-id.auto.id-end) in
    own-there c.loop-id.ids.items _ c.args.rules (subst (AreOwnPlaces c.loop-id.ids.items) e c.loop-id.invariant.ids) refl

pub returns-clause-places : goal.returns-clause-places
returns-clause-places c =
    let e : c.loop-id.id ≡ c.args.rules = omega (arith, c.loop-id-test.false, c.loop-id.auto.id-end) in
    own-place c.loop-id.ids.items _ c.args.rules (subst (AreOwnPlaces c.loop-id.ids.items) e c.loop-id.invariant.ids) refl
