use Rattle.std.proofs.Common.{[], ◌∷◌, length, ap, arith, sym, subst}
use Rattle.slt_grammar.specs.Bodies.{real_nodes}
use Rattle.slt_grammar.specs.Grammars.{size}
use Rattle.slt_grammar.specs.Keyed.{Keyed, rules_of}
use Rattle.tree_updates.proofs.CopiedCodes.{alone-code}
use Rattle.tree_updates.proofs.NodeExtents.{extent-low}
use Rattle.tree_updates.proofs.UncountedCopies.{alone-uncounted, twin-code}
use Rattle.tree_updates.specs.Fronts.{IsSameBeforeFirst}
use Rattle.tree_updates.proofs.copying.put_alone.Goals as goal

pub wrap_node-requires-clause-body : goal.wrap_node-requires-clause-body
wrap_node-requires-clause-body g c =
    let a = c.args.store.now in
    let r = c.requires.store in
    let n = c.args.number in
    (a.names, r.2.extent.here ∷ [], alone-code a.grammar.rules a.names a.texts.texts r.0 r.1.stand n (extent-low r.0 n c.args.extent r.2.extent) c.args.extent r.2 c.args.spot.now c.requires.spot c.requires.alone c.args.body.now c.requires.body)

pub wrap_node-requires-clause-room : goal.wrap_node-requires-clause-room
wrap_node-requires-clause-room g c = omega (arith, c.requires.nodes, ap length c.requires.body)

pub wrap_node-requires-clause-links : goal.wrap_node-requires-clause-links
wrap_node-requires-clause-links g c = omega (arith, c.requires.links, ap length c.requires.body)

pub count_copy-requires-clause-store : goal.count_copy-requires-clause-store
count_copy-requires-clause-store g c =
    let a = c.args.store.now in
    let r = c.requires.store in
    let n = c.args.number in
    let s = c.args.spot.now in
    let H = c.wrap_node.new.grammar in
    let I = c.wrap_node.new.index in
    let C = twin-code a r.0 r.1 n c.args.extent r.2 s c.requires.spot H I c.wrap_node.ensures.index c.requires.alone c.args.body.now c.requires.body in
    let gets = c.wrap_node.ensures.value a.names a.names n (r.2.extent.here ∷ []) c.requires.spot C in
    (r.0, alone-uncounted a r.0 r.1 n c.args.extent r.2 s c.requires.spot H I c.wrap_node.ensures.index c.requires.alone c.args.body.now c.requires.body c.limit-limit.ensures.keyed.grammar gets c.wrap_node.ensures.values)

pub returns-clause-store : goal.returns-clause-store
returns-clause-store g c = λ t u M.
    let a = c.args.store.now in
    let n = c.args.number in
    let s = c.args.spot.now in
    let H = c.wrap_node.new.grammar in
    let I = c.wrap_node.new.index in
    let C = twin-code a t u n c.args.extent M s c.requires.spot H I c.wrap_node.ensures.index c.requires.alone c.args.body.now c.requires.body in
    let gets = c.wrap_node.ensures.value a.names a.names n (M.extent.here ∷ []) c.requires.spot C in
    c.count_copy.ensures.store t (alone-uncounted a t u n c.args.extent M s c.requires.spot H I c.wrap_node.ensures.index c.requires.alone c.args.body.now c.requires.body c.limit-limit.ensures.keyed.grammar gets c.wrap_node.ensures.values)

pub returns-clause-size : goal.returns-clause-size
returns-clause-size g c = omega (arith, c.wrap_node.ensures.size, ap real_nodes c.requires.body, ap (λ (k : Keyed). size (rules_of k.rules)) c.count_copy.ensures.grammar)

pub returns-clause-front : goal.returns-clause-front
returns-clause-front g c =
    subst (λ (k : Keyed). IsSameBeforeFirst c.args.spot.now.levels.items c.args.store.now.grammar.rules k.rules) (sym c.count_copy.ensures.grammar) c.wrap_node.ensures.front
