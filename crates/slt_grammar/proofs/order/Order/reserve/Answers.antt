use Rattle.std.proofs.Common.{◌∙◌, ◌≤◌, ℕ, List, length, take, ap, arith, ◌∷◌, [], length-append}
use Rattle.std.proofs.lemmas.List.{take-append-le}
use Rattle.slt_grammar.proofs.Orders.{freed}
use Rattle.slt_grammar.proofs.order.Order.reserve.Goals as goal

pub loop-self-preserved : goal.loop-self-preserved
loop-self-preserved c =
    let I = c.loop-self.invariant in
    let e = c.in_ok-add_free.ensures.ok.0 in
    let w : c.loop-self.self-inside.used ≤ length c.loop-self.self-inside.ids.items = I.ordered.within in
    record {
      ordered = freed c.loop-self.self-inside.ids.items c.loop-self.self-inside.places.items c.add_free.new.ids.items c.add_free.new.places.items c.loop-self.self-inside.used I.ordered e c.in_ok-add_free.ensures.ok.1;
      order = ap (λ (zs : List ℕ). take c.loop-self.self-inside.used zs) e ∙ rw take-append-le I.order;
      grown = omega (arith, I.grown, ap length e, length-append c.loop-self.self-inside.ids.items (length c.loop-self.self-inside.ids.items ∷ []));
    }
