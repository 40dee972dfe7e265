use Rattle.std.proofs.Common.{◌∙◌, ℕ, sym, subst, arith}
use Rattle.slt_grammar.specs.Ordering.{AllBelow}
use Rattle.slt_grammar.proofs.Orders.{inserted}
use Rattle.slt_grammar.proofs.order.Order.insert.Goals as goal

pub renumber-requires-clause-distinct : goal.renumber-requires-clause-distinct
renumber-requires-clause-distinct c =
    let I = inserted c.self.inside.ids.items c.self.inside.places.items c.self.inside.used c.args.self.now c.self.invariant c.self.view_is c.carry.new.items.items c.args.place c.index-id.result.now
    c.index-id.result.now c.requires.within c.requires.room c.index-id.ensures c.carry.ensures in
    I.0.distinct

pub renumber-requires-clause-below : goal.renumber-requires-clause-below
renumber-requires-clause-below c =
    let I = inserted c.self.inside.ids.items c.self.inside.places.items c.self.inside.used c.args.self.now c.self.invariant c.self.view_is c.carry.new.items.items c.args.place c.index-id.result.now
    c.index-id.result.now c.requires.within c.requires.room c.index-id.ensures c.carry.ensures in
    I.0.below

pub renumber-requires-clause-others : goal.renumber-requires-clause-others
renumber-requires-clause-others c =
    let I = inserted c.self.inside.ids.items c.self.inside.places.items c.self.inside.used c.args.self.now c.self.invariant c.self.view_is c.carry.new.items.items c.args.place c.index-id.result.now
    c.index-id.result.now c.requires.within c.requires.room c.index-id.ensures c.carry.ensures in
    I.0.kept

pub invariant_of-self : goal.invariant_of-self
invariant_of-self c =
    let I = inserted c.self.inside.ids.items c.self.inside.places.items c.self.inside.used c.args.self.now c.self.invariant c.self.view_is c.carry.new.items.items c.args.place c.index-id.result.now
    c.index-id.result.now c.requires.within c.requires.room c.index-id.ensures c.carry.ensures in
    record {
      within = omega (arith, I.0.within);
      same = c.renumber.ensures.len ∙ c.self.invariant.same ∙ sym I.0.same;
      distinct = I.0.distinct;
      below = subst (λ (m : ℕ). AllBelow m c.carry.new.items.items) (c.self.invariant.same ∙ sym I.0.same) I.0.below;
      inverse = c.renumber.ensures.inverse;
    }

pub returns-clause-order : goal.returns-clause-order
returns-clause-order c =
    let I = inserted c.self.inside.ids.items c.self.inside.places.items c.self.inside.used c.args.self.now c.self.invariant c.self.view_is c.carry.new.items.items c.args.place c.index-id.result.now
    c.index-id.result.now c.requires.within c.requires.room c.index-id.ensures c.carry.ensures in
    I.0.order_is

pub returns-clause-fresh : goal.returns-clause-fresh
returns-clause-fresh c =
    let I = inserted c.self.inside.ids.items c.self.inside.places.items c.self.inside.used c.args.self.now c.self.invariant c.self.view_is c.carry.new.items.items c.args.place c.index-id.result.now
    c.index-id.result.now c.requires.within c.requires.room c.index-id.ensures c.carry.ensures in
    I.1
