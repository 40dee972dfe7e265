use Rattle.std.proofs.Common.{arith}
use Rattle.tree_updates.proofs.StoreLemmas.{none-told, some-told, total-is}
use Rattle.tree_updates.proofs.node_spots.spot_at.Goals as goal

pub returns-in-Some-clause-there : goal.returns-in-Some-clause-there
returns-in-Some-clause-there g c = λ t i.
    let h = some-told c.in_ok-found.found c.in-Some.spot c.in-Some.is c.in_ok-found.ensures.some.0 in
    omega (arith, h, total-is c.args.store.now t i c.rules-rules.ensures.grammar)

pub returns-in-None-clause-refused : goal.returns-in-None-clause-refused
returns-in-None-clause-refused g c = λ t e i same.
    let total = total-is c.args.store.now t i c.rules-rules.ensures.grammar in
    let no = none-told c.in_ok-found.found c.in-None.is c.in_ok-found.ensures.some.1 in
    (omega (arith, c.total-count.ensures.kept, total), omega (arith, total, same, no))
