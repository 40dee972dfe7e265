use Rattle.std.proofs.Common.{arith}
use Rattle.std.proofs.lemmas.Result.{IfOk-weaker}
use Rattle.slt_grammar.specs.Keyed.{rules_of}
use Rattle.value_cursor.specs.Cursors.{tokens_of}
use Rattle.store_core.proofs.RiseRooms.{rise-enough}
use Rattle.store_core.proofs.Rooms.{room-for-each}
use Rattle.store_core.proofs.Walks.{walk-opens}
use Rattle.store_core.proofs.walking.places_anywhere.Goals as goal

pub returns-then-nodes-size : goal.returns-then-nodes-size
returns-then-nodes-size g c = λ number cursor begins.
    let store = c.args.store.now in
    let nodes = c.total-nodes.ensures.nodes store.names (rules_of store.grammar.rules) c.requires.counts c.limit-limit.ensures.keyed.grammar in
    room-for-each c.total-nodes.result 0 (tokens_of store.grammar.rules cursor) (omega (arith, nodes, walk-opens store.grammar.rules number cursor begins))

pub returns : goal.returns
returns g c = IfOk-weaker c.most_open.result _ _ (λ places rises. rise-enough c.args.store.now places rises) c.most_open.ensures.cursors
