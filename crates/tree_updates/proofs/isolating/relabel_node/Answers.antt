use Rattle.std.proofs.Common.{List, sym, ◌∙◌, arith}
use Rattle.slt_grammar.specs.Keyed.{KeyedRule, rules_of}
use Rattle.slt_grammar.proofs.KeyedLemmas.{length-rules_of}
use Rattle.tree_updates.proofs.InStart.{differ-number, in-start, others-stay, same-value}
use Rattle.tree_updates.specs.Fronts.{first_keys}
use Rattle.tree_updates.proofs.Fronts.{front-relabelled}
use Rattle.tree_updates.proofs.KeptRanks.{ranks-in-start, ranks-with-nodes}
use Rattle.tree_updates.proofs.MovedMarks.{moves-renamed}
use Rattle.tree_updates.proofs.isolating.relabel_node.Goals as goal

pub relabel_linked-requires-clause-node : goal.relabel_linked-requires-clause-node
relabel_linked-requires-clause-node g c =
    let r = c.requires.spot in
    (in-start c.isolate_node-at.new.grammar.rules r.1 c.isolate_node-at.result (c.isolate_node-at.ensures.node r.0 r.1 r.2)).node

pub relabel_linked-requires-clause-links : goal.relabel_linked-requires-clause-links
relabel_linked-requires-clause-links g c = omega (arith, c.requires.links, c.isolate_node-at.ensures.links)

pub relabel_linked-requires-clause-cells : goal.relabel_linked-requires-clause-cells
relabel_linked-requires-clause-cells g c = omega (arith, c.requires.cells, c.isolate_node-at.ensures.cells, c.isolate_node-at.ensures.limit)

pub returns-clause-value : goal.returns-clause-value
returns-clause-value g c = λ names n s.
    let G : List KeyedRule = c.args.grammar.now.rules in
    let H : List KeyedRule = c.isolate_node-at.new.grammar.rules in
    let I = c.isolate_node-at.ensures.node names n s in
    let L = c.relabel_linked.ensures.value (in-start H n c.isolate_node-at.result I) in
    let v = same-value (rules_of G) (rules_of H) (length-rules_of H ∙ c.isolate_node-at.ensures.others.many ∙ sym (length-rules_of G)) c.isolate_node-at.ensures.values in
    record { was = L.was; left = L.left; right = L.right; differ = differ-number (rules_of G) (rules_of H) (rules_of c.relabel_linked.new.grammar.rules) I.place n _ _ v L.differ I.before }

pub returns-clause-values : goal.returns-clause-values
returns-clause-values g c =
    let G : List KeyedRule = c.args.grammar.now.rules in
    let H : List KeyedRule = c.isolate_node-at.new.grammar.rules in
    let r = c.requires.spot in
    others-stay (rules_of G) (rules_of H) (rules_of c.relabel_linked.new.grammar.rules) (length-rules_of H ∙ c.isolate_node-at.ensures.others.many ∙ sym (length-rules_of G)) c.isolate_node-at.ensures.values (c.relabel_linked.ensures.values (in-start c.isolate_node-at.new.grammar.rules r.1 c.isolate_node-at.result (c.isolate_node-at.ensures.node r.0 r.1 r.2)))

pub returns-clause-size : goal.returns-clause-size
returns-clause-size g c =
    let r = c.requires.spot in
    omega (arith, c.relabel_linked.ensures.size, c.isolate_node-at.ensures.most)

pub returns-clause-spare_nodes : goal.returns-clause-spare_nodes
returns-clause-spare_nodes g c = omega (arith, c.isolate_node-at.ensures.spare_nodes, c.relabel_linked.ensures.spare_nodes)

pub returns-clause-links : goal.returns-clause-links
returns-clause-links g c = omega (arith, c.isolate_node-at.ensures.links, c.relabel_linked.ensures.links)

pub returns-clause-front : goal.returns-clause-front
returns-clause-front g c =
    let r = c.requires.spot in
    let E = c.isolate_node-at.ensures in
    let G : List KeyedRule = c.args.grammar.now.rules in
    let h = c.isolate_node-at.new.grammar in
    let S = in-start h.rules r.1 c.isolate_node-at.result (E.node r.0 r.1 r.2) in
    front-relabelled c.args.spot.now.levels.items G h c.limit-limit.ensures.keyed c.isolate_node-at.result E.others.many E.front S.node.here c.args.symbol c.relabel_linked.new.grammar.rules (c.relabel_linked.ensures.values S) (c.relabel_linked.ensures.rules S.node.here)

pub returns-clause-moves : goal.returns-clause-moves
returns-clause-moves g c = λ names n s.
    let E = c.isolate_node-at.ensures in
    let G : List KeyedRule = c.args.grammar.now.rules in
    let h = c.isolate_node-at.new.grammar in
    let I = E.node names n s in
    let v = same-value (rules_of G) (rules_of h.rules) (length-rules_of h.rules ∙ E.others.many ∙ sym (length-rules_of G)) E.values in
    moves-renamed G (first_keys c.args.spot.now.levels.items) h c.limit-limit.ensures.keyed n c.isolate_node-at.result I v E.before c.relabel_linked.new.grammar c.limit-after.ensures.keyed c.args.symbol
    (c.relabel_linked.ensures.rules (in-start h.rules n c.isolate_node-at.result I).node.here)

pub returns-clause-ranks : goal.returns-clause-ranks
returns-clause-ranks g c =
    let r = c.requires.spot in
    let E = c.isolate_node-at.ensures in
    let h = c.isolate_node-at.new.grammar in
    let S = in-start h.rules r.1 c.isolate_node-at.result (E.node r.0 r.1 r.2) in
    omega (
      arith,
      ranks-in-start c.args.grammar.now.rules h.rules E.others c.limit-limit.ensures.keyed.grammar,
      ranks-with-nodes h.rules c.relabel_linked.new.grammar.rules S.node.here.rule _ (c.relabel_linked.ensures.rules S.node.here),
    )
