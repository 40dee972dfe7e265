use Rattle.std.proofs.Common.{◌≡◌, ◌+◌, ◌-◌, ◌≤◌, length, take}
use Rattle.slt_grammar.specs.Ordering.{IsOrder}
use Rattle.slt_grammar.proofs.order.Order.reserve.Given as goal

abbrev pub invariant-loop-self : goal.invariant-loop-self
invariant-loop-self l = record {
  ordered : IsOrder l.self-inside.ids.items l.self-inside.places.items l.self-inside.used;
  order : take l.self-inside.used l.self-inside.ids.items ≡ l.fn.self.order;
  grown : l.fn.self.spare + l.self-inside.used ≤ length l.self-inside.ids.items;
}

abbrev pub decreases-loop-self : goal.decreases-loop-self
decreases-loop-self l = l.more + l.self-inside.used - length l.self-inside.ids.items
