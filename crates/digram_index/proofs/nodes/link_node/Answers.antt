use Rattle.std.proofs.Common.{arith}
use Rattle.digram_index.proofs.NodeLinks.{node-linked}
use Rattle.digram_index.proofs.nodes.link_node.Goals as goal

pub link_reserved-requires-clause-cells : goal.link_reserved-requires-clause-cells
link_reserved-requires-clause-cells c =
    let S = c.requires.there in
    let b = c.limit-limit.ensures.keyed.below c.args.key S.rule S.place S.there in
    let r = c.requires.cells in
    omega arith

pub returns-then-is_lower-clause-part : goal.returns-then-is_lower-clause-part
returns-then-is_lower-clause-part c =
    let o = c.if-is_lower.ensures in
    (node-linked c.args.grammar.now c.limit-limit.ensures.keyed c.args.key c.args.index.now c.link_reserved.new.self c.requires.part c.requires.there o.0 o.1 (c.link_reserved.ensures.linked o.0 o.1) c.link_reserved.ensures.others c.link_reserved.ensures.rules).0

pub returns-then-is_lower-clause-right : goal.returns-then-is_lower-clause-right
returns-then-is_lower-clause-right c =
    let o = c.if-is_lower.ensures in
    (node-linked c.args.grammar.now c.limit-limit.ensures.keyed c.args.key c.args.index.now c.link_reserved.new.self c.requires.part c.requires.there o.0 o.1 (c.link_reserved.ensures.linked o.0 o.1) c.link_reserved.ensures.others c.link_reserved.ensures.rules).1
