use Rattle.std.proofs.Common.{arith}
use Rattle.std.specs.Prelude.{vec_capacity}
use Rattle.slt_grammar.specs.Grammars.{value}
use Rattle.slt_grammar.specs.Keyed.{rules_of}
use Rattle.value_cursor.specs.Cursors.{tokens_of}
use Rattle.segment_counts.proofs.Coded.{weight-coded}
use Rattle.store_core.proofs.Rooms.{room-more}
use Rattle.store_core.proofs.Walks.{count-some}
use Rattle.store_core.proofs.walking.NodeWalk.anywhere.Goals as goal

pub returns : goal.returns
returns g c =
    let rules = c.args.store.now.grammar.rules in
    record {
      inside = rw c.in-Some.is at c.in_ok-cursor.ensures.inside;
      enough = λ number cursor begins. room-more c.in_ok-places.places (vec_capacity c.in_ok-outer.outer) 0 (tokens_of rules cursor) (omega (arith, c.in_ok-outer.ensures.capacity)) (c.in_ok-places.ensures number cursor begins);
    }

pub unreachable-requires : goal.unreachable-requires
unreachable-requires g c =
    let held = c.requires.held in
    let e = weight-coded c.args.store.now.names held.tree (value (rules_of c.args.store.now.grammar.rules)) held.stand.code in
    let some = rw c.in-None.is at c.in_ok-cursor.ensures.some in
    let no = some.1 (omega (arith, e, count-some held.tree)) in
    cc
