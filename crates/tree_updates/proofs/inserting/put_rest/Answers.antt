use Rattle.std.proofs.Common.{subst}
use Rattle.tree_updates.specs.Extents.{IsUnsweptFor}
use Rattle.tree_updates.proofs.JoinedStores.{any-placed, some-left}
use Rattle.start_fronts.proofs.Windows.{nothing-moves}
use Rattle.segment_counts.specs.Weights.{node_weight}
use Rattle.tree_updates.specs.Fronts.{first_keys}
use Rattle.tree_updates.proofs.inserting.put_rest.Goals as goal

pub put_before-requires-clause-comes : goal.put_before-requires-clause-comes
put_before-requires-clause-comes g c =
    let r = c.requires.comes in
    let some = some-left c.args.store.now.names r.1 c.args.rest.body r.3 c.len.result c.len.ensures c.if-len-eq1.false in
    (r.0, r.1, r.2, r.4 some)

pub returns-clause-store : goal.returns-clause-store
returns-clause-store g c = λ t F u C come.
    let some = some-left c.args.store.now.names F c.args.rest.body C c.len.result c.len.ensures c.if-len-eq1.false in
    subst (IsUnsweptFor c.put_before.new.store) (any-placed t c.args.number F some) (c.put_before.ensures.store t F u (come some))

pub returns-then-len-eq1-clause-moves : goal.returns-then-len-eq1-clause-moves
returns-then-len-eq1-clause-moves g c = nothing-moves node_weight (first_keys c.args.spot.now.levels.items) c.args.number c.args.store.now.grammar c.limit-limit.ensures.keyed
