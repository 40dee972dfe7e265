use Rattle.std.proofs.Common.{ap}
use Rattle.slt_grammar.specs.Ordering.{Ordered}
use Rattle.slt_grammar.proofs.Orders.{told-id}
use Rattle.slt_grammar.proofs.order.Order.id.Goals as goal

pub returns-clause-place : goal.returns-clause-place
returns-clause-place c =
    told-id c.self.inside.ids.items c.args.self.now.order c.self.inside.used c.args.place c.index.result.now c.index.result.now (ap (λ (o : Ordered). o.order) c.self.view_is) c.self.invariant.distinct c.requires c.index.ensures c.self.invariant.within
