use Rattle.std.proofs.Common.{List}
use Rattle.slt_grammar.specs.declared.level.Level.{Level}
use Rattle.tree_updates.proofs.IsolatedPlaces.{leading-place, place-isolated}
use Rattle.tree_updates.proofs.MovedMarks.{first-kept}
use Rattle.tree_updates.proofs.code_places.isolate_place.Goals as goal

pub isolate_linked-requires-clause-chain : goal.isolate_linked-requires-clause-chain
isolate_linked-requires-clause-chain g c =
    let k = c.args.grammar.now in
    let r = c.requires.leads in
    let N = leading-place k c.limit-limit.ensures.keyed r.0 (g.W.Way.levels c.args.way k.rules) r.1 in
    (N.places, N.chain)

pub returns-clause-isolated : goal.returns-clause-isolated
returns-clause-isolated g c = λ n L.
    let k = c.args.grammar.now in
    let K = c.limit-limit.ensures.keyed in
    let lv : List Level = g.W.Way.levels c.args.way k.rules in
    let N = leading-place k K n lv L in
    place-isolated k K n lv L c.isolate_linked.new.grammar.rules c.isolate_linked.result c.isolate_linked.ensures.others.many (c.isolate_linked.ensures.node N.places N.chain)

pub returns-clause-before : goal.returns-clause-before
returns-clause-before g c =
    let k = c.args.grammar.now in
    let r = c.requires.leads in
    let lv : List Level = g.W.Way.levels c.args.way k.rules in
    let N = leading-place k c.limit-limit.ensures.keyed r.0 lv r.1 in
    first-kept k.rules c.isolate_linked.new.grammar.rules lv N.places N.chain c.isolate_linked.ensures.before
