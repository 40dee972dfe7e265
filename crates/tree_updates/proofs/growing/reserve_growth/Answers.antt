use Rattle.std.proofs.Common.{List, ap, sym, subst, arith}
use Rattle.slt_grammar.specs.Keyed.{KeyedRule}
use Rattle.slt_grammar.specs.declared.level.Level.{Level}
use Rattle.path_isolation.specs.Chains.{IsChain}
use Rattle.path_isolation.specs.Isolations.{room_along}
use Rattle.path_isolation.proofs.Walks.{room-few}
use Rattle.tree_updates.specs.CodePlaces.{room_to_place}
use Rattle.tree_updates.proofs.IsolatedPlaces.{chain-to-place}
use Rattle.tree_updates.proofs.growing.reserve_growth.Goals as goal

pub nodes_along-nodes-requires-clause-chain : goal.nodes_along-nodes-requires-clause-chain
nodes_along-nodes-requires-clause-chain g c =
    let G = c.args.store.now.grammar in
    let L = c.requires.spot in
    let ch = chain-to-place G c.limit-limit.ensures.keyed c.args.growth.now.site.place c.args.spot.now.levels.items L.low L.located in
    (ch.0, subst (λ (ls : List Level). IsChain G.rules ls ch.0) (sym c.way.ensures) ch.1)

pub overflow_add-nodes : goal.overflow_add-nodes
overflow_add-nodes g c =
    let G = c.args.store.now.grammar in
    let K = c.limit-limit.ensures.keyed in
    let L = c.requires.spot in
    let ch = chain-to-place G K c.args.growth.now.site.place c.args.spot.now.levels.items L.low L.located in
    let f = room-few G.rules c.args.spot.now.levels.items ch.0 (record { grammar = K.grammar; arities = K.arities }) ch.1 in
    omega (arith, f, K.few, c.nodes_along-nodes.ensures.value, ap (room_along G.rules) c.way.ensures, c.if-labels-ge-MOST_LABELS.false, c.len-labels.ensures)

pub reserve_room-requires : goal.reserve_room-requires
reserve_room-requires g c =
    let G = c.args.store.now.grammar in
    let K = c.limit-limit.ensures.keyed in
    let L = c.requires.spot in
    let ch = chain-to-place G K c.args.growth.now.site.place c.args.spot.now.levels.items L.low L.located in
    let f = room-few G.rules c.args.spot.now.levels.items ch.0 (record { grammar = K.grammar; arities = K.arities }) ch.1 in
    record { few = omega (arith, f, K.few, c.nodes_along-nodes.ensures.value, ap (room_along G.rules) c.way.ensures, c.if-labels-ge-MOST_LABELS.false, c.len-labels.ensures) }

pub returns-clause-nodes : goal.returns-clause-nodes
returns-clause-nodes g c =
    let R = c.args.store.now.grammar.rules in
    let n = c.args.growth.now.site.place in
    omega (
      arith,
      c.in_ok-reserve_room.ensures.nodes,
      c.nodes_along-nodes.ensures.value,
      ap (room_along R) c.way.ensures,
      ap (room_along R) c.requires.spot.located,
      c.len-labels.ensures,
      ap (λ (R : List KeyedRule). room_to_place R n) c.reserve_room.ensures.rules,
    )

pub returns-clause-links : goal.returns-clause-links
returns-clause-links g c =
    let R = c.args.store.now.grammar.rules in
    let n = c.args.growth.now.site.place in
    omega (
      arith,
      c.in_ok-reserve_room.ensures.links,
      c.nodes_along-nodes.ensures.value,
      ap (room_along R) c.way.ensures,
      ap (room_along R) c.requires.spot.located,
      c.len-labels.ensures,
      ap (λ (R : List KeyedRule). room_to_place R n) c.reserve_room.ensures.rules,
    )
