use Rattle.tree_updates.proofs.SpareNodes.{kind-there}
use Rattle.tree_updates.proofs.spare_node.spare_spot.Goals as goal

pub unreachable-requires : goal.unreachable-requires
unreachable-requires g c =
    let r = c.requires.store in
    let a = c.args.store.now in
    kind-there r.0 r.1.stand.document c.args.number (c.in_ok-spot.ensures.there r.0 r.1) c.kind.result (c.kind.ensures a.grammar.rules c.args.number r.0 c.in_ok-spot.ensures.spot r.1.stand.code) c.in_default.is
