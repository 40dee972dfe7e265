use Rattle.std.proofs.Common.{◌∙◌, ℕ, sym, subst, arith}
use Rattle.slt_grammar.specs.Ordering.{AllBelow}
use Rattle.slt_grammar.proofs.Orders.{removed}
use Rattle.slt_grammar.proofs.order.Order.remove.Goals as goal

pub renumber-requires-clause-distinct : goal.renumber-requires-clause-distinct
renumber-requires-clause-distinct c =
    let I = removed c.self.inside.ids.items c.self.inside.places.items c.self.inside.used c.args.self.now c.self.invariant c.self.view_is c.carry.new.items.items c.args.place c.requires
    c.carry.ensures in
    I.distinct

pub renumber-requires-clause-below : goal.renumber-requires-clause-below
renumber-requires-clause-below c =
    let I = removed c.self.inside.ids.items c.self.inside.places.items c.self.inside.used c.args.self.now c.self.invariant c.self.view_is c.carry.new.items.items c.args.place c.requires
    c.carry.ensures in
    I.below

pub renumber-requires-clause-others : goal.renumber-requires-clause-others
renumber-requires-clause-others c =
    let I = removed c.self.inside.ids.items c.self.inside.places.items c.self.inside.used c.args.self.now c.self.invariant c.self.view_is c.carry.new.items.items c.args.place c.requires
    c.carry.ensures in
    I.kept

pub invariant_of-self : goal.invariant_of-self
invariant_of-self c =
    let I = removed c.self.inside.ids.items c.self.inside.places.items c.self.inside.used c.args.self.now c.self.invariant c.self.view_is c.carry.new.items.items c.args.place c.requires
    c.carry.ensures in
    record {
      within = omega (arith, I.within);
      same = c.renumber.ensures.len ∙ c.self.invariant.same ∙ sym I.same;
      distinct = I.distinct;
      below = subst (λ (m : ℕ). AllBelow m c.carry.new.items.items) (c.self.invariant.same ∙ sym I.same) I.below;
      inverse = c.renumber.ensures.inverse;
    }

pub returns-clause-order : goal.returns-clause-order
returns-clause-order c =
    let I = removed c.self.inside.ids.items c.self.inside.places.items c.self.inside.used c.args.self.now c.self.invariant c.self.view_is c.carry.new.items.items c.args.place c.requires
    c.carry.ensures in
    I.order_is
