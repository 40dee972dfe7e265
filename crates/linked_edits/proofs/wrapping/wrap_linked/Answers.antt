use Rattle.std.proofs.Common.{arith}
use Rattle.linked_edits.proofs.PutBefore.{put-before, put-front, put-index, put-part, put-run, run-many}
use Rattle.linked_edits.proofs.WrappedIndex.{first-below}
use Rattle.linked_edits.proofs.wrapping.wrap_linked.Goals as goal

pub unwrap-requires : goal.unwrap-requires
unwrap-requires c = c.wrap.ensures.succeeds c.requires.nodes

pub node_below-first-requires : goal.node_below-first-requires
node_below-first-requires c =
    let S = c.requires.there in
    let W = rw c.unwrap.ensures at c.wrap.ensures.rules in
    let g = c.args.grammar.now in
    let h = c.wrap.new.self in
    let K = c.limit-before.ensures.keyed in
    let K' = c.limit-after.ensures.keyed in
    let P = put-before g h K K' c.args.at S c.args.body.now c.requires.last c.requires.body (W S) in
    (S.here.place, first-below g h K K' c.args.at S.here.rule S.here.place S.start S.here.there P.pre P.all P.new c.site-above.result.parent (c.site-above.ensures.parent S.here.rule S.here.place S.here.there))

pub link_run-requires-clause-run : goal.link_run-requires-clause-run
link_run-requires-clause-run c =
    let S = c.requires.there in
    let W = rw c.unwrap.ensures at c.wrap.ensures.rules in
    let g = c.args.grammar.now in
    let h = c.wrap.new.self in
    let K = c.limit-before.ensures.keyed in
    let K' = c.limit-after.ensures.keyed in
    let P = put-before g h K K' c.args.at S c.args.body.now c.requires.last c.requires.body (W S) in
    let B = first-below g h K K' c.args.at S.here.rule S.here.place S.start S.here.there P.pre P.all P.new c.site-above.result.parent (c.site-above.ensures.parent S.here.rule S.here.place S.here.there) in
    put-run g h K K' c.args.at S c.args.body.now c.requires.last c.requires.body (W S) c.node_below-first.result (c.node_below-first.ensures S.here.place B)

pub link_run-requires-clause-part : goal.link_run-requires-clause-part
link_run-requires-clause-part c =
    let S = c.requires.there in
    let W = rw c.unwrap.ensures at c.wrap.ensures.rules in
    let U = c.unlink_node.ensures in
    put-part c.args.grammar.now c.wrap.new.self c.limit-before.ensures.keyed c.limit-after.ensures.keyed c.args.at S c.args.body.now c.requires.last c.requires.body (W S) c.args.index.now c.unlink_node.new.index c.requires.index U.free U.others U.rules

pub link_run-requires-clause-links : goal.link_run-requires-clause-links
link_run-requires-clause-links c = λ R.
    let S = c.requires.there in
    let W = rw c.unwrap.ensures at c.wrap.ensures.rules in
    let g = c.args.grammar.now in
    let h = c.wrap.new.self in
    let K = c.limit-before.ensures.keyed in
    let K' = c.limit-after.ensures.keyed in
    let P = put-before g h K K' c.args.at S c.args.body.now c.requires.last c.requires.body (W S) in
    let B = first-below g h K K' c.args.at S.here.rule S.here.place S.start S.here.there P.pre P.all P.new c.site-above.result.parent (c.site-above.ensures.parent S.here.rule S.here.place S.here.there) in
    let m = run-many g h K K' c.args.at S c.args.body.now c.requires.last c.requires.body (W S) c.node_below-first.result R (c.node_below-first.ensures S.here.place B) in
    omega (arith, m, c.requires.links, c.unlink_node.ensures.spares.0)

pub returns-clause-index : goal.returns-clause-index
returns-clause-index c =
    let S = c.requires.there in
    let W = rw c.unwrap.ensures at c.wrap.ensures.rules in
    let g = c.args.grammar.now in
    let h = c.wrap.new.self in
    let K = c.limit-before.ensures.keyed in
    let K' = c.limit-after.ensures.keyed in
    let U = c.unlink_node.ensures in
    let J = c.link_run.ensures in
    let P = put-before g h K K' c.args.at S c.args.body.now c.requires.last c.requires.body (W S) in
    let B = first-below g h K K' c.args.at S.here.rule S.here.place S.start S.here.there P.pre P.all P.new c.site-above.result.parent (c.site-above.ensures.parent S.here.rule S.here.place S.here.there) in
    put-index g h K K' c.args.at S c.args.body.now c.requires.last c.requires.body (W S) c.args.index.now c.unlink_node.new.index c.requires.index U.free U.others U.rules c.node_below-first.result (c.node_below-first.ensures S.here.place B)
    c.link_run.new.index J.part J.right J.others

pub returns-clause-links : goal.returns-clause-links
returns-clause-links c =
    let S = c.requires.there in
    let W = rw c.unwrap.ensures at c.wrap.ensures.rules in
    let g = c.args.grammar.now in
    let h = c.wrap.new.self in
    let K = c.limit-before.ensures.keyed in
    let K' = c.limit-after.ensures.keyed in
    let P = put-before g h K K' c.args.at S c.args.body.now c.requires.last c.requires.body (W S) in
    let B = first-below g h K K' c.args.at S.here.rule S.here.place S.start S.here.there P.pre P.all P.new c.site-above.result.parent (c.site-above.ensures.parent S.here.rule S.here.place S.here.there) in
    let R = put-run g h K K' c.args.at S c.args.body.now c.requires.last c.requires.body (W S) c.node_below-first.result (c.node_below-first.ensures S.here.place B) in
    let m = run-many g h K K' c.args.at S c.args.body.now c.requires.last c.requires.body (W S) c.node_below-first.result R (c.node_below-first.ensures S.here.place B) in
    omega (arith, m, c.link_run.ensures.spare R, c.unlink_node.ensures.spares.0)

pub returns-clause-front : goal.returns-clause-front
returns-clause-front c = λ S.
    let W = rw c.unwrap.ensures at c.wrap.ensures.rules in
    put-front c.args.grammar.now c.wrap.new.self c.limit-before.ensures.keyed c.limit-after.ensures.keyed c.args.at S c.args.body.now c.requires.last c.requires.body (W S)
