use Rattle.std.proofs.Common.{◌≤◌, List, sym, ap, subst, arith}
use Rattle.slt_grammar.specs.Holding.{IsLawful}
use Rattle.slt_grammar.specs.Keyed.{KeyedRule}
use Rattle.path_isolation.specs.Isolations.{room_along}
use Rattle.path_isolation.proofs.Walks.{room-few}
use Rattle.path_isolation.proofs.isolation.isolate.Goals as goal

pub isolate_within-requires-clause-room : goal.isolate_within-requires-clause-room
isolate_within-requires-clause-room g c =
    let G : List KeyedRule = c.args.grammar.now.rules in
    let K = c.limit-limit.ensures.keyed in
    let L : IsLawful G = record { grammar = K.grammar; arities = K.arities } in
    let r = c.in_ok-reserve.ensures in
    let f = room-few G (g.W.Way.levels c.args.way G) c.requires.chain.0 L c.requires.chain.1 in
    subst (λ (H : List KeyedRule). room_along H (g.W.Way.levels c.args.way H) ≤ c.reserve.new.self.spare_nodes) (sym r.rules) (omega (arith, f, r.nodes, c.count_nodes.ensures))

pub returns-clause-spare_nodes : goal.returns-clause-spare_nodes
returns-clause-spare_nodes g c =
    let G : List KeyedRule = c.args.grammar.now.rules in
    let K = c.limit-limit.ensures.keyed in
    let L : IsLawful G = record { grammar = K.grammar; arities = K.arities } in
    let r = c.in_ok-reserve.ensures in
    let f = room-few G (g.W.Way.levels c.args.way G) c.requires.chain.0 L c.requires.chain.1 in
    omega (arith, f, r.grown, ap (λ (H : List KeyedRule). room_along H (g.W.Way.levels c.args.way H)) r.rules, c.isolate_within.ensures.spare_nodes)
