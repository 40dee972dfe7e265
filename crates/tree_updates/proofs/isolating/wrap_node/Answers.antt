use Rattle.std.proofs.Common.{List, sym, ◌∙◌, arith}
use Rattle.slt_grammar.specs.Keyed.{KeyedRule, rules_of}
use Rattle.slt_grammar.proofs.KeyedLemmas.{length-rules_of}
use Rattle.tree_updates.proofs.CodeBodies.{code-last, code-means, code-plain, code-wrapper}
use Rattle.tree_updates.proofs.InStart.{others-stay, same-value}
use Rattle.tree_updates.proofs.WrappedNodes.{gets-before, in-start-rule}
use Rattle.tree_updates.specs.Fronts.{first_keys}
use Rattle.tree_updates.proofs.Fronts.{front-wrapped}
use Rattle.tree_updates.proofs.KeptRanks.{ranks-in-start, ranks-wrapped}
use Rattle.tree_updates.proofs.MovedMarks.{moves-wrapped-around}
use Rattle.tree_updates.proofs.isolating.wrap_node.Goals as goal

pub wrap_linked-requires-clause-there : goal.wrap_linked-requires-clause-there
wrap_linked-requires-clause-there g c =
    let r = c.requires.spot in
    in-start-rule c.isolate_node-at.new.grammar.rules r.1 c.isolate_node-at.result (c.isolate_node-at.ensures.node r.0 r.1 r.2)

pub wrap_linked-requires-clause-body : goal.wrap_linked-requires-clause-body
wrap_linked-requires-clause-body g c = let b = c.requires.body in code-wrapper b.0 b.1 c.args.body.now b.2 (rules_of c.isolate_node-at.new.grammar.rules)

pub wrap_linked-requires-clause-last : goal.wrap_linked-requires-clause-last
wrap_linked-requires-clause-last g c = let b = c.requires.body in code-last b.0 b.1 c.args.body.now b.2

pub wrap_linked-requires-clause-nodes : goal.wrap_linked-requires-clause-nodes
wrap_linked-requires-clause-nodes g c = omega (arith, c.requires.room, c.isolate_node-at.ensures.spare_nodes)

pub wrap_linked-requires-clause-links : goal.wrap_linked-requires-clause-links
wrap_linked-requires-clause-links g c = omega (arith, c.requires.links, c.isolate_node-at.ensures.links)

pub wrap_linked-requires-clause-cells : goal.wrap_linked-requires-clause-cells
wrap_linked-requires-clause-cells g c = omega (arith, c.requires.cells, c.isolate_node-at.ensures.cells, c.isolate_node-at.ensures.limit)

pub returns-clause-value : goal.returns-clause-value
returns-clause-value g c = λ names others n F s C.
    let G : List KeyedRule = c.args.grammar.now.rules in
    let H : List KeyedRule = c.isolate_node-at.new.grammar.rules in
    let I = c.isolate_node-at.ensures.node names n s in
    let v = same-value (rules_of G) (rules_of H) (length-rules_of H ∙ c.isolate_node-at.ensures.others.many ∙ sym (length-rules_of G)) c.isolate_node-at.ensures.values in
    gets-before G H c.wrap_linked.new.grammar.rules n c.isolate_node-at.result I c.limit-limit.ensures.keyed.grammar v c.args.body.now (c.wrap_linked.ensures.value (in-start-rule H n c.isolate_node-at.result I)) C.front
    (code-means others F c.args.body.now C (rules_of H))

pub returns-clause-values : goal.returns-clause-values
returns-clause-values g c =
    let G : List KeyedRule = c.args.grammar.now.rules in
    let H : List KeyedRule = c.isolate_node-at.new.grammar.rules in
    others-stay (rules_of G) (rules_of H) (rules_of c.wrap_linked.new.grammar.rules) (length-rules_of H ∙ c.isolate_node-at.ensures.others.many ∙ sym (length-rules_of G)) c.isolate_node-at.ensures.values c.wrap_linked.ensures.values

pub returns-clause-size : goal.returns-clause-size
returns-clause-size g c = omega (arith, c.wrap_linked.ensures.size, c.isolate_node-at.ensures.most)

pub returns-clause-front : goal.returns-clause-front
returns-clause-front g c =
    let r = c.requires.spot in
    let E = c.isolate_node-at.ensures in
    let G : List KeyedRule = c.args.grammar.now.rules in
    let h = c.isolate_node-at.new.grammar in
    let S = in-start-rule h.rules r.1 c.isolate_node-at.result (E.node r.0 r.1 r.2) in
    front-wrapped c.args.spot.now.levels.items G h c.limit-limit.ensures.keyed c.isolate_node-at.result E.others.many E.front S.here c.wrap_linked.new.grammar.rules c.wrap_linked.ensures.values (c.wrap_linked.ensures.front S)

pub returns-clause-moves : goal.returns-clause-moves
returns-clause-moves g c = λ names n s.
    let E = c.isolate_node-at.ensures in
    let b = c.requires.body in
    let body = c.args.body.now in
    let G : List KeyedRule = c.args.grammar.now.rules in
    let h = c.isolate_node-at.new.grammar in
    let I = E.node names n s in
    let v = same-value (rules_of G) (rules_of h.rules) (length-rules_of h.rules ∙ E.others.many ∙ sym (length-rules_of G)) E.values in
    moves-wrapped-around G (first_keys c.args.spot.now.levels.items) h c.limit-limit.ensures.keyed n c.isolate_node-at.result I v E.before c.wrap_linked.new.grammar c.limit-after.ensures.keyed body
    (code-wrapper b.0 b.1 body b.2 (rules_of h.rules)) (code-last b.0 b.1 body b.2) (code-plain b.0 b.1 body b.2) (c.wrap_linked.ensures.rules (in-start-rule h.rules n c.isolate_node-at.result I))

pub returns-clause-ranks : goal.returns-clause-ranks
returns-clause-ranks g c =
    let r = c.requires.spot in
    let E = c.isolate_node-at.ensures in
    let h = c.isolate_node-at.new.grammar in
    let S = in-start-rule h.rules r.1 c.isolate_node-at.result (E.node r.0 r.1 r.2) in
    omega (
      arith,
      ranks-in-start c.args.grammar.now.rules h.rules E.others c.limit-limit.ensures.keyed.grammar,
      ranks-wrapped h.rules c.wrap_linked.new.grammar.rules S.here.rule S.here.place c.isolate_node-at.result c.args.body.now (c.wrap_linked.ensures.rules S),
    )
