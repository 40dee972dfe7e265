use Rattle.std.proofs.Common.{List, sym, ap, subst, arith}
use Rattle.std.proofs.lemmas.Result.{on_ok_weaker}
use Rattle.slt_grammar.specs.Keyed.{KeyedRule}
use Rattle.slt_grammar.specs.declared.level.Level.{Level}
use Rattle.path_isolation.specs.Chains.{IsChain}
use Rattle.path_isolation.specs.Isolations.{room_along}
use Rattle.path_isolation.proofs.Walks.{room-few}
use Rattle.tree_updates.proofs.Numbered.{spot-numbered}
use Rattle.tree_updates.proofs.room.reserve_at.Goals as goal

pub nodes_along-nodes-requires-clause-chain : goal.nodes_along-nodes-requires-clause-chain
nodes_along-nodes-requires-clause-chain g c =
    let a = c.args.store.now in
    let S = c.requires.spot in
    let N = spot-numbered S.0 a.grammar c.limit-limit.ensures.keyed S.1 c.args.spot.now S.2 in
    (N.places, subst (λ (ls : List Level). IsChain a.grammar.rules ls N.places) (sym c.way.ensures) N.chain)

pub overflow_add-nodes : goal.overflow_add-nodes
overflow_add-nodes g c =
    let a = c.args.store.now in
    let K = c.limit-limit.ensures.keyed in
    let S = c.requires.spot in
    let N = spot-numbered S.0 a.grammar K S.1 c.args.spot.now S.2 in
    let f = room-few a.grammar.rules c.args.spot.now.levels.items N.places (record { grammar = K.grammar; arities = K.arities }) N.chain in
    omega (arith, f, K.few, c.requires.few, c.nodes_along-nodes.ensures.value, ap (room_along a.grammar.rules) c.way.ensures)

pub reserve_room-requires : goal.reserve_room-requires
reserve_room-requires g c =
    let a = c.args.store.now in
    let K = c.limit-limit.ensures.keyed in
    let S = c.requires.spot in
    let N = spot-numbered S.0 a.grammar K S.1 c.args.spot.now S.2 in
    let f = room-few a.grammar.rules c.args.spot.now.levels.items N.places (record { grammar = K.grammar; arities = K.arities }) N.chain in
    record { few = omega (arith, f, K.few, c.requires.few, c.nodes_along-nodes.ensures.value, ap (room_along a.grammar.rules) c.way.ensures) }

pub returns-clause-nodes : goal.returns-clause-nodes
returns-clause-nodes g c =
    let R = c.args.store.now.grammar.rules in
    let ls = c.args.spot.now.levels.items in
    on_ok_weaker c.reserve.result
    (λ more. omega (arith, c.in_ok-reserve_room.ensures.nodes, c.nodes_along-nodes.ensures.value, ap (room_along R) c.way.ensures, ap (λ (R : List KeyedRule). room_along R ls) c.reserve_room.ensures.rules)) c.reserve.ensures.room

pub returns-clause-links : goal.returns-clause-links
returns-clause-links g c =
    let R = c.args.store.now.grammar.rules in
    let ls = c.args.spot.now.levels.items in
    on_ok_weaker c.reserve.result
    (λ more. omega (arith, c.in_ok-reserve_room.ensures.links, c.nodes_along-nodes.ensures.value, ap (room_along R) c.way.ensures, ap (λ (R : List KeyedRule). room_along R ls) c.reserve_room.ensures.rules)) c.reserve.ensures.room
