use Rattle.std.proofs.Common.{◌+◌, ◌-◌, List, length, ap, ◌∙◌, arith}
use Rattle.slt_grammar.specs.Bodies.{real_nodes}
use Rattle.slt_grammar.specs.Holding.{IsLawful}
use Rattle.slt_grammar.specs.Keyed.{KeyedRule, rules_of}
use Rattle.slt_grammar.specs.Wrapping.{IsInStart}
use Rattle.tree_updates.proofs.SharedBelow.{child-in-start, child-there, ends, shared-start, shares, stays-there, wraps}
use Rattle.tree_updates.proofs.Fronts.{front-shared}
use Rattle.tree_updates.proofs.KeptRanks.{ranks-in-start, ranks-shared, ranks-wrapped}
use Rattle.tree_updates.proofs.copying_code.wrap_shared.Goals as goal

pub following-requires : goal.following-requires
following-requires g c =
    let r = c.requires.spot in
    let H : List KeyedRule = c.isolate_node-at.new.grammar.rules in
    let I = c.isolate_node-at.ensures.node r.0 r.1 r.2 in
    (length H - 1, I.place, I.there)

pub unwrap-child-requires : goal.unwrap-child-requires
unwrap-child-requires g c =
    let r = c.requires.spot in
    let H : List KeyedRule = c.isolate_node-at.new.grammar.rules in
    let K = c.limit-apart.ensures.keyed in
    let L : IsLawful H = record { grammar = K.grammar; arities = K.arities } in
    let I = c.isolate_node-at.ensures.node r.0 r.1 r.2 in
    child-there H L r.1 c.isolate_node-at.result I c.following.result (c.following.ensures (length H - 1) I.place I.there)

pub share_linked-call-requires-clause-there : goal.share_linked-call-requires-clause-there
share_linked-call-requires-clause-there g c =
    let r = c.requires.spot in
    let H : List KeyedRule = c.isolate_node-at.new.grammar.rules in
    let K = c.limit-apart.ensures.keyed in
    let L : IsLawful H = record { grammar = K.grammar; arities = K.arities } in
    let I = c.isolate_node-at.ensures.node r.0 r.1 r.2 in
    child-in-start H L r.1 c.isolate_node-at.result I c.unwrap-child.result c.following.result (c.following.ensures (length H - 1) I.place I.there) c.unwrap-child.ensures

pub wrap_linked-requires-clause-there : goal.wrap_linked-requires-clause-there
wrap_linked-requires-clause-there g c =
    let r = c.requires.spot in
    let H : List KeyedRule = c.isolate_node-at.new.grammar.rules in
    let S : List KeyedRule = c.share_linked-call.new.grammar.rules in
    let K = c.limit-apart.ensures.keyed in
    let K' = c.limit-shared.ensures.keyed in
    let L : IsLawful H = record { grammar = K.grammar; arities = K.arities } in
    let L' : IsLawful S = record { grammar = K'.grammar; arities = K'.arities } in
    let at = c.isolate_node-at.result in
    let I = c.isolate_node-at.ensures.node r.0 r.1 r.2 in
    let next = c.following.ensures (length H - 1) I.place I.there in
    let new = c.share_linked-call.ensures.rules (record { rule = length H - 1; place = I.place + 1; there = next ∙ c.unwrap-child.ensures }) in
    let call = c.share_linked-call.result in
    let more = c.share_linked-call.ensures.values in
    record { here = record { rule = length S - 1; place = I.place; there = stays-there H L r.1 at I S L' call new more }; start = shared-start H L r.1 at I S L' call new more }

pub wrap_linked-requires-clause-body : goal.wrap_linked-requires-clause-body
wrap_linked-requires-clause-body g c =
    let r = c.requires.spot in
    let G : List KeyedRule = c.args.grammar.now.rules in
    let H : List KeyedRule = c.isolate_node-at.new.grammar.rules in
    let S : List KeyedRule = c.share_linked-call.new.grammar.rules in
    let K = c.limit-apart.ensures.keyed in
    let K' = c.limit-shared.ensures.keyed in
    let L : IsLawful H = record { grammar = K.grammar; arities = K.arities } in
    let L' : IsLawful S = record { grammar = K'.grammar; arities = K'.arities } in
    let at = c.isolate_node-at.result in
    let I = c.isolate_node-at.ensures.node r.0 r.1 r.2 in
    let next = c.following.ensures (length H - 1) I.place I.there in
    let new = c.share_linked-call.ensures.rules (record { rule = length H - 1; place = I.place + 1; there = next ∙ c.unwrap-child.ensures }) in
    let call = c.share_linked-call.result in
    let more = c.share_linked-call.ensures.values in
    let b = c.requires.body in
    wraps H L r.1 at I S L' call new more G c.isolate_node-at.ensures.others.many b.0 c.args.body.now b.1

pub wrap_linked-requires-clause-last : goal.wrap_linked-requires-clause-last
wrap_linked-requires-clause-last g c =
    let r = c.requires.spot in
    let G : List KeyedRule = c.args.grammar.now.rules in
    let H : List KeyedRule = c.isolate_node-at.new.grammar.rules in
    let S : List KeyedRule = c.share_linked-call.new.grammar.rules in
    let K = c.limit-apart.ensures.keyed in
    let K' = c.limit-shared.ensures.keyed in
    let L : IsLawful H = record { grammar = K.grammar; arities = K.arities } in
    let L' : IsLawful S = record { grammar = K'.grammar; arities = K'.arities } in
    let at = c.isolate_node-at.result in
    let I = c.isolate_node-at.ensures.node r.0 r.1 r.2 in
    let next = c.following.ensures (length H - 1) I.place I.there in
    let new = c.share_linked-call.ensures.rules (record { rule = length H - 1; place = I.place + 1; there = next ∙ c.unwrap-child.ensures }) in
    let call = c.share_linked-call.result in
    let more = c.share_linked-call.ensures.values in
    let b = c.requires.body in
    ends H L r.1 at I S L' call new more G c.isolate_node-at.ensures.others.many b.0 c.args.body.now b.1

pub wrap_linked-requires-clause-nodes : goal.wrap_linked-requires-clause-nodes
wrap_linked-requires-clause-nodes g c = let b = c.requires.body in omega (arith, ap length b.1, c.requires.nodes, c.isolate_node-at.ensures.spare_nodes, c.share_linked-call.ensures.spare_nodes)

pub wrap_linked-requires-clause-links : goal.wrap_linked-requires-clause-links
wrap_linked-requires-clause-links g c = let b = c.requires.body in omega (arith, ap length b.1, c.requires.links, c.isolate_node-at.ensures.links, c.share_linked-call.ensures.links)

pub wrap_linked-requires-clause-cells : goal.wrap_linked-requires-clause-cells
wrap_linked-requires-clause-cells g c =
    omega (arith, c.requires.cells, c.isolate_node-at.ensures.cells, c.isolate_node-at.ensures.limit, c.share_linked-call.ensures.cells, c.share_linked-call.ensures.limit)

pub returns-clause-value : goal.returns-clause-value
returns-clause-value g c = λ names n s spot twin.
    let G : List KeyedRule = c.args.grammar.now.rules in
    let H : List KeyedRule = c.isolate_node-at.new.grammar.rules in
    let S : List KeyedRule = c.share_linked-call.new.grammar.rules in
    let K = c.limit-apart.ensures.keyed in
    let K' = c.limit-shared.ensures.keyed in
    let L : IsLawful H = record { grammar = K.grammar; arities = K.arities } in
    let L' : IsLawful S = record { grammar = K'.grammar; arities = K'.arities } in
    let at = c.isolate_node-at.result in
    let I = c.isolate_node-at.ensures.node names n spot in
    let next = c.following.ensures (length H - 1) I.place I.there in
    let new = c.share_linked-call.ensures.rules (record { rule = length H - 1; place = I.place + 1; there = next ∙ c.unwrap-child.ensures }) in
    let call = c.share_linked-call.result in
    let more = c.share_linked-call.ensures.values in
    let there : IsInStart S at = record { here = record { rule = length S - 1; place = I.place; there = stays-there H L n at I S L' call new more }; start = shared-start H L n at I S L' call new more } in
    shares H L n at I S L' call new more G c.isolate_node-at.ensures.others.many s c.args.body.now twin c.isolate_node-at.ensures.values c.share_linked-call.ensures.value (rules_of c.wrap_linked.new.grammar.rules)
    c.wrap_linked.ensures.values (c.wrap_linked.ensures.value there)

pub returns-clause-size : goal.returns-clause-size
returns-clause-size g c = let b = c.requires.body in omega (arith, c.wrap_linked.ensures.size, ap real_nodes b.1, c.share_linked-call.ensures.size, c.isolate_node-at.ensures.most)

pub returns-clause-front : goal.returns-clause-front
returns-clause-front g c =
    let r = c.requires.spot in
    let E = c.isolate_node-at.ensures in
    let G : List KeyedRule = c.args.grammar.now.rules in
    let h = c.isolate_node-at.new.grammar in
    let H : List KeyedRule = h.rules in
    let S : List KeyedRule = c.share_linked-call.new.grammar.rules in
    let K = c.limit-apart.ensures.keyed in
    let K' = c.limit-shared.ensures.keyed in
    let L : IsLawful H = record { grammar = K.grammar; arities = K.arities } in
    let L' : IsLawful S = record { grammar = K'.grammar; arities = K'.arities } in
    let at = c.isolate_node-at.result in
    let I = E.node r.0 r.1 r.2 in
    let next = c.following.ensures (length H - 1) I.place I.there ∙ c.unwrap-child.ensures in
    let new = c.share_linked-call.ensures.rules (record { rule = length H - 1; place = I.place + 1; there = next }) in
    let call = c.share_linked-call.result in
    let more = c.share_linked-call.ensures.values in
    let there : IsInStart S at = record { here = record { rule = length S - 1; place = I.place; there = stays-there H L r.1 at I S L' call new more }; start = shared-start H L r.1 at I S L' call new more } in
    front-shared c.args.spot.now.levels.items G h K at E.others.many E.front I.place I.there c.unwrap-child.result call next S c.wrap_linked.new.grammar.rules more new c.wrap_linked.ensures.values (c.wrap_linked.ensures.front there)

pub returns-clause-ranks : goal.returns-clause-ranks
returns-clause-ranks g c =
    let r = c.requires.spot in
    let E = c.isolate_node-at.ensures in
    let H : List KeyedRule = c.isolate_node-at.new.grammar.rules in
    let S : List KeyedRule = c.share_linked-call.new.grammar.rules in
    let K = c.limit-apart.ensures.keyed in
    let K' = c.limit-shared.ensures.keyed in
    let L : IsLawful H = record { grammar = K.grammar; arities = K.arities } in
    let L' : IsLawful S = record { grammar = K'.grammar; arities = K'.arities } in
    let at = c.isolate_node-at.result in
    let I = E.node r.0 r.1 r.2 in
    let next = c.following.ensures (length H - 1) I.place I.there ∙ c.unwrap-child.ensures in
    let new = c.share_linked-call.ensures.rules (record { rule = length H - 1; place = I.place + 1; there = next }) in
    let call = c.share_linked-call.result in
    let more = c.share_linked-call.ensures.values in
    let there : IsInStart S at = record { here = record { rule = length S - 1; place = I.place; there = stays-there H L r.1 at I S L' call new more }; start = shared-start H L r.1 at I S L' call new more } in
    omega (
      arith,
      ranks-in-start c.args.grammar.now.rules H E.others K.grammar,
      ranks-shared H S (length H - 1) (I.place + 1) call new,
      ranks-wrapped S c.wrap_linked.new.grammar.rules (length S - 1) I.place at c.args.body.now (c.wrap_linked.ensures.rules there),
    )
