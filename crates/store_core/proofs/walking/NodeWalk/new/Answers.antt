use Rattle.std.proofs.Common.{arith}
use Rattle.std.specs.Prelude.{vec_capacity}
use Rattle.value_cursor.specs.Cursors.{BeginsAtNode, tokens_of}
use Rattle.store_core.proofs.Rooms.{room-more}
use Rattle.store_core.proofs.walking.NodeWalk.new.Goals as goal

pub returns-clause-ready : goal.returns-clause-ready
returns-clause-ready g c =
    let rules = c.args.store.now.grammar.rules in
    let begins : BeginsAtNode rules c.args.number c.in-Some.cursor = rw c.in-Some.is at c.in_ok-cursor.ensures.begins in
    record {
      inside = rw c.in-Some.is at c.in_ok-cursor.ensures.inside;
      none_open = c.in_ok-outer.ensures.items;
      room = room-more c.in_ok-places.places (vec_capacity c.in_ok-outer.outer) 0 (tokens_of rules c.in-Some.cursor) (omega (arith, c.in_ok-outer.ensures.capacity)) (c.in_ok-places.ensures c.in-Some.cursor begins);
    }
