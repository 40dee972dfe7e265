use Rattle.std.proofs.Common.{◌∙◌, ap, arith}
use Rattle.slt_grammar.specs.Ordering.{Ordered}
use Rattle.slt_grammar.proofs.Orders.{told-place}
use Rattle.slt_grammar.proofs.order.Order.place.Goals as goal

pub index-requires : goal.index-requires
index-requires c =
    let h = (told-place c.self.inside.ids.items c.self.inside.places.items c.args.self.now.order c.self.inside.used c.args.id 0 c.self.invariant (ap (λ (o : Ordered). o.order) c.self.view_is) c.requires).0 in
    omega (arith, h, c.self.inside.places.ok)

pub returns : goal.returns
returns c = c.index.ensures ∙ (told-place c.self.inside.ids.items c.self.inside.places.items c.args.self.now.order c.self.inside.used c.args.id c.index.result.now c.self.invariant (ap (λ (o : Ordered). o.order) c.self.view_is) c.requires).1
