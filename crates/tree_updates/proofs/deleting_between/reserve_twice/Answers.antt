use Rattle.std.proofs.Common.{List, ap, sym, subst, arith}
use Rattle.std.proofs.lemmas.Result.{on_ok_weaker}
use Rattle.slt_grammar.specs.Keyed.{KeyedRule}
use Rattle.slt_grammar.specs.declared.level.Level.{Level}
use Rattle.path_isolation.specs.Chains.{IsChain}
use Rattle.path_isolation.specs.Isolations.{room_along}
use Rattle.tree_updates.specs.Ways.{HasNode}
use Rattle.tree_updates.proofs.Numbered.{spot-numbered}
use Rattle.tree_updates.proofs.NodeWays.{enough-room, same-rules, start-some}
use Rattle.tree_updates.proofs.deleting_between.reserve_twice.Goals as goal

pub nodes_along-first-requires-clause-chain : goal.nodes_along-first-requires-clause-chain
nodes_along-first-requires-clause-chain g c =
    let a = c.args.store.now in
    let q = c.requires.spot in
    let N = spot-numbered q.0 a.grammar c.limit-limit.ensures.keyed q.1 c.args.spot.now q.2 in
    (N.places, subst (λ (ls : List Level). IsChain a.grammar.rules ls N.places) (sym c.way.ensures) N.chain)

pub overflow_add-first : goal.overflow_add-first
overflow_add-first g c =
    let a = c.args.store.now in
    let q = c.requires.spot in
    let K = c.limit-limit.ensures.keyed in
    let N = spot-numbered q.0 a.grammar K q.1 c.args.spot.now q.2 in
    let f = c.nodes_elsewhere-second.ensures.enough a.grammar.rules c.args.spot.now.levels.items N.places (same-rules a.grammar.rules) (record { grammar = K.grammar; arities = K.arities }) N.chain in
    omega (arith, f, K.few, c.nodes_along-first.ensures.value, ap (room_along a.grammar.rules) c.way.ensures, c.nodes_elsewhere-second.ensures.value, start-some a.grammar.rules K.grammar)

pub overflow_add-first-2 : goal.overflow_add-first-2
overflow_add-first-2 g c =
    let a = c.args.store.now in
    let q = c.requires.spot in
    let K = c.limit-limit.ensures.keyed in
    let N = spot-numbered q.0 a.grammar K q.1 c.args.spot.now q.2 in
    let f = c.nodes_elsewhere-second.ensures.enough a.grammar.rules c.args.spot.now.levels.items N.places (same-rules a.grammar.rules) (record { grammar = K.grammar; arities = K.arities }) N.chain in
    omega (arith, f, K.few, c.nodes_along-first.ensures.value, ap (room_along a.grammar.rules) c.way.ensures, c.nodes_elsewhere-second.ensures.value, start-some a.grammar.rules K.grammar)

pub reserve_room-requires : goal.reserve_room-requires
reserve_room-requires g c =
    let a = c.args.store.now in
    let q = c.requires.spot in
    let K = c.limit-limit.ensures.keyed in
    let N = spot-numbered q.0 a.grammar K q.1 c.args.spot.now q.2 in
    let f = c.nodes_elsewhere-second.ensures.enough a.grammar.rules c.args.spot.now.levels.items N.places (same-rules a.grammar.rules) (record { grammar = K.grammar; arities = K.arities }) N.chain in
    record { few = omega (arith, f, K.few, c.nodes_along-first.ensures.value, ap (room_along a.grammar.rules) c.way.ensures, c.nodes_elsewhere-second.ensures.value, start-some a.grammar.rules K.grammar) }

pub returns-clause-nodes : goal.returns-clause-nodes
returns-clause-nodes g c =
    let a = c.args.store.now in
    let e = c.reserve_room.ensures.rules in
    let ls = c.args.spot.now.levels.items in
    on_ok_weaker c.reserve.result (λ more h n H.
    let f = enough-room a.grammar.rules c.nodes_elsewhere-second.result c.nodes_elsewhere-second.ensures.enough h n (subst (λ (R : List KeyedRule). HasNode R h n) e H) in
    omega (arith, f, c.nodes_along-first.ensures.value, ap (room_along a.grammar.rules) c.way.ensures, ap (λ (R : List KeyedRule). room_along R ls) e, c.in_ok-reserve_room.ensures.nodes)) c.reserve.ensures.room

pub returns-clause-links : goal.returns-clause-links
returns-clause-links g c =
    let a = c.args.store.now in
    let e = c.reserve_room.ensures.rules in
    let ls = c.args.spot.now.levels.items in
    on_ok_weaker c.reserve.result (λ more h n H.
    let f = enough-room a.grammar.rules c.nodes_elsewhere-second.result c.nodes_elsewhere-second.ensures.enough h n (subst (λ (R : List KeyedRule). HasNode R h n) e H) in
    omega (arith, f, c.nodes_along-first.ensures.value, ap (room_along a.grammar.rules) c.way.ensures, ap (λ (R : List KeyedRule). room_along R ls) e, c.in_ok-reserve_room.ensures.links)) c.reserve.ensures.room
