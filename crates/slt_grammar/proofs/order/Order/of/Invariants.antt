use Rattle.std.proofs.Common.{◌≡◌}
use Rattle.slt_grammar.proofs.Orders.{AreOwnPlaces}
use Rattle.slt_grammar.proofs.order.Order.of.Given as goal

abbrev pub invariant-loop-id : goal.invariant-loop-id
invariant-loop-id l = record {
  ids : AreOwnPlaces l.ids.items l.id;
  places : l.places.items ≡ l.ids.items;
}
