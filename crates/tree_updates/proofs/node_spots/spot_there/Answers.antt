use Rattle.std.proofs.Common.{arith}
use Rattle.tree_updates.proofs.StoreLemmas.{none-told, total-is}
use Rattle.tree_updates.proofs.node_spots.spot_there.Goals as goal

pub unreachable-requires : goal.unreachable-requires
unreachable-requires g c =
    let r = c.requires.store in
    let total = total-is c.args.store.now r.0 r.1 c.limit-limit.ensures.keyed.grammar in
    let no = none-told c.in_ok-found.found c.in_default.is c.in_ok-found.ensures.some.1 in
    absurd (omega (arith, total, no, r.2))
