use Rattle.std.proofs.Common.{List, sym, ap, subst, arith}
use Rattle.slt_grammar.specs.Holding.{IsLawful}
use Rattle.slt_grammar.specs.declared.level.Level.{Level}
use Rattle.path_isolation.specs.Chains.{IsChain}
use Rattle.path_isolation.specs.Isolations.{room_along}
use Rattle.path_isolation.proofs.Walks.{room-few}
use Rattle.tree_updates.proofs.Numbered.{spot-numbered}
use Rattle.tree_updates.proofs.renaming.make_room.Goals as goal

pub nodes_along-nodes-requires-clause-chain : goal.nodes_along-nodes-requires-clause-chain
nodes_along-nodes-requires-clause-chain g c =
    let k = c.args.grammar.now in
    let r = c.requires.spot in
    let N = spot-numbered r.0 k c.limit-limit.ensures.keyed r.1 c.args.spot.now r.2 in
    (N.places, subst (λ (ls : List Level). IsChain k.rules ls N.places) (sym c.way-way.ensures) N.chain)

pub overflow_add-nodes : goal.overflow_add-nodes
overflow_add-nodes g c =
    let k = c.args.grammar.now in
    let r = c.requires.spot in
    let K = c.limit-limit.ensures.keyed in
    let N = spot-numbered r.0 k K r.1 c.args.spot.now r.2 in
    let L : IsLawful k.rules = record { grammar = K.grammar; arities = K.arities } in
    omega (arith, K.few, room-few k.rules c.args.spot.now.levels.items N.places L N.chain, c.nodes_along-nodes.ensures.value, ap (λ (ls : List Level). room_along k.rules ls) c.way-way.ensures)
