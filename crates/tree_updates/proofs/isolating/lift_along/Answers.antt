use Rattle.std.proofs.Common.{List, sym, ◌∙◌, arith}
use Rattle.slt_grammar.specs.Keyed.{KeyedRule, rules_of}
use Rattle.slt_grammar.proofs.KeyedLemmas.{length-rules_of}
use Rattle.tree_updates.proofs.InStart.{differ-number, in-start, lifted-others, others-stay, same-value}
use Rattle.tree_updates.specs.Fronts.{first_keys}
use Rattle.tree_updates.proofs.Fronts.{front-replaced}
use Rattle.tree_updates.proofs.KeptRanks.{ranks-in-start, ranks-with-nodes}
use Rattle.tree_updates.proofs.MovedMarks.{moves-lifted-out}
use Rattle.slt_grammar.specs.declared.level.Level.{Level}
use Rattle.tree_updates.proofs.isolating.lift_along.Goals as goal

pub lift_linked-requires-clause-node : goal.lift_linked-requires-clause-node
lift_linked-requires-clause-node g c =
    let r = c.requires.leads in
    in-start c.isolate_along-at.new.grammar.rules r.0 c.isolate_along-at.result (c.isolate_along-at.ensures.node r.0 r.1)

pub lift_linked-requires-clause-links : goal.lift_linked-requires-clause-links
lift_linked-requires-clause-links g c = omega (arith, c.requires.links, c.isolate_along-at.ensures.links)

pub lift_linked-requires-clause-cells : goal.lift_linked-requires-clause-cells
lift_linked-requires-clause-cells g c = omega (arith, c.requires.cells, c.isolate_along-at.ensures.cells, c.isolate_along-at.ensures.limit)

pub returns-clause-value : goal.returns-clause-value
returns-clause-value g c = λ n l.
    let G : List KeyedRule = c.args.grammar.now.rules in
    let H : List KeyedRule = c.isolate_along-at.new.grammar.rules in
    let I = c.isolate_along-at.ensures.node n l in
    let L = c.lift_linked.ensures.value (in-start H n c.isolate_along-at.result I) in
    let v = same-value (rules_of G) (rules_of H) (length-rules_of H ∙ c.isolate_along-at.ensures.others.many ∙ sym (length-rules_of G)) c.isolate_along-at.ensures.values in
    record { symbol = L.was; left = L.left; right = L.right; differ = differ-number (rules_of G) (rules_of H) (rules_of c.lift_linked.new.grammar.rules) I.place n _ _ v L.differ I.before }

pub returns-clause-values : goal.returns-clause-values
returns-clause-values g c =
    let G : List KeyedRule = c.args.grammar.now.rules in
    let H : List KeyedRule = c.isolate_along-at.new.grammar.rules in
    others-stay (rules_of G) (rules_of H) (rules_of c.lift_linked.new.grammar.rules) (length-rules_of H ∙ c.isolate_along-at.ensures.others.many ∙ sym (length-rules_of G)) c.isolate_along-at.ensures.values c.lift_linked.ensures.values

pub returns-clause-others : goal.returns-clause-others
returns-clause-others g c =
    let r = c.requires.leads in
    let H : List KeyedRule = c.isolate_along-at.new.grammar.rules in
    let S = in-start H r.0 c.isolate_along-at.result (c.isolate_along-at.ensures.node r.0 r.1) in
    lifted-others c.args.grammar.now.rules H c.lift_linked.new.grammar.rules S.node.here.rule _ S.start c.isolate_along-at.ensures.others (c.lift_linked.ensures.rules S.node.here)

pub returns-clause-most : goal.returns-clause-most
returns-clause-most g c =
    let r = c.requires.leads in
    omega (arith, c.lift_linked.ensures.size (in-start c.isolate_along-at.new.grammar.rules r.0 c.isolate_along-at.result (c.isolate_along-at.ensures.node r.0 r.1)).node.here, c.isolate_along-at.ensures.most)

pub returns-clause-spare_nodes : goal.returns-clause-spare_nodes
returns-clause-spare_nodes g c = omega (arith, c.isolate_along-at.ensures.spare_nodes, c.lift_linked.ensures.spare_nodes)

pub returns-clause-links : goal.returns-clause-links
returns-clause-links g c = omega (arith, c.isolate_along-at.ensures.links, c.lift_linked.ensures.links)

pub returns-clause-front : goal.returns-clause-front
returns-clause-front g c =
    let r = c.requires.leads in
    let E = c.isolate_along-at.ensures in
    let G : List KeyedRule = c.args.grammar.now.rules in
    let h = c.isolate_along-at.new.grammar in
    let lv : List Level = g.W.Way.levels c.args.way G in
    let S = in-start h.rules r.0 c.isolate_along-at.result (E.node r.0 r.1) in
    front-replaced lv G h c.limit-limit.ensures.keyed c.isolate_along-at.result E.others.many E.front S.node.here _ c.lift_linked.new.grammar.rules c.lift_linked.ensures.values (c.lift_linked.ensures.rules S.node.here)

pub returns-clause-moves : goal.returns-clause-moves
returns-clause-moves g c = λ n l.
    let E = c.isolate_along-at.ensures in
    let G : List KeyedRule = c.args.grammar.now.rules in
    let h = c.isolate_along-at.new.grammar in
    let I = E.node n l in
    let v = same-value (rules_of G) (rules_of h.rules) (length-rules_of h.rules ∙ E.others.many ∙ sym (length-rules_of G)) E.values in
    moves-lifted-out G (first_keys (g.W.Way.levels c.args.way G)) h c.limit-limit.ensures.keyed n c.isolate_along-at.result I v E.before c.lift_linked.new.grammar c.limit-after.ensures.keyed
    (c.lift_linked.ensures.rules (in-start h.rules n c.isolate_along-at.result I).node.here)

pub returns-clause-ranks : goal.returns-clause-ranks
returns-clause-ranks g c =
    let r = c.requires.leads in
    let E = c.isolate_along-at.ensures in
    let h = c.isolate_along-at.new.grammar in
    let S = in-start h.rules r.0 c.isolate_along-at.result (E.node r.0 r.1) in
    omega (
      arith,
      ranks-in-start c.args.grammar.now.rules h.rules E.others c.limit-limit.ensures.keyed.grammar,
      ranks-with-nodes h.rules c.lift_linked.new.grammar.rules S.node.here.rule _ (c.lift_linked.ensures.rules S.node.here),
    )
