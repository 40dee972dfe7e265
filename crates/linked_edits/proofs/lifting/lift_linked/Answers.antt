use Rattle.std.proofs.Common.{List, slice_get, sym, ap, ◌∙◌}
use Rattle.rule_arena.specs.declared.key.Key.{Key}
use Rattle.linked_edits.proofs.Lifted.{kids-two, lifted-index, lifted-part, lifted-run, lifted-there, some-second}
use Rattle.linked_edits.proofs.lifting.lift_linked.Goals as goal

pub unwrap-second-requires : goal.unwrap-second-requires
unwrap-second-requires c =
    let S = c.requires.node.node in
    some-second c.item.result.kids c.get.result (kids-two c.args.grammar.now c.limit-limit.ensures.keyed c.args.at S _ (c.item.ensures.node S.here.rule S.here.place S.here.there)) c.get.ensures

pub unlink_run-requires-clause-run : goal.unlink_run-requires-clause-run
unlink_run-requires-clause-run c =
    let T = c.requires.node in
    let S = T.node in
    let two = kids-two c.args.grammar.now c.limit-limit.ensures.keyed c.args.at S _ (c.item.ensures.node S.here.rule S.here.place S.here.there) in
    let sec = ap (λ (ks : List Key). slice_get ks 1) (c.item.ensures.kids S.here.rule S.here.place S.here.there) ∙ sym c.get.ensures ∙ c.unwrap-second.ensures in
    lifted-run c.args.grammar.now c.limit-limit.ensures.keyed c.args.at c.unwrap-second.result T _ (c.item.ensures.node S.here.rule S.here.place S.here.there) two sec

pub link_node-requires-clause-part : goal.link_node-requires-clause-part
link_node-requires-clause-part c =
    let T = c.requires.node in
    let S = T.node in
    let U = c.unlink_run.ensures in
    let two = kids-two c.args.grammar.now c.limit-limit.ensures.keyed c.args.at S _ (c.item.ensures.node S.here.rule S.here.place S.here.there) in
    let sec = ap (λ (ks : List Key). slice_get ks 1) (c.item.ensures.kids S.here.rule S.here.place S.here.there) ∙ sym c.get.ensures ∙ c.unwrap-second.ensures in
    let R = lifted-run c.args.grammar.now c.limit-limit.ensures.keyed c.args.at c.unwrap-second.result T _ (c.item.ensures.node S.here.rule S.here.place S.here.there) two sec in
    lifted-part c.args.grammar.now c.limit-limit.ensures.keyed c.args.at c.unwrap-second.result T _ (c.item.ensures.node S.here.rule S.here.place S.here.there) two sec c.lift.new.self (c.lift.ensures.rules S.here)
    c.args.index.now c.unlink_run.new.index c.requires.index (U.free R) (U.others R) U.rules

pub link_node-requires-clause-there : goal.link_node-requires-clause-there
link_node-requires-clause-there c =
    let T = c.requires.node in
    let S = T.node in
    let two = kids-two c.args.grammar.now c.limit-limit.ensures.keyed c.args.at S _ (c.item.ensures.node S.here.rule S.here.place S.here.there) in
    let sec = ap (λ (ks : List Key). slice_get ks 1) (c.item.ensures.kids S.here.rule S.here.place S.here.there) ∙ sym c.get.ensures ∙ c.unwrap-second.ensures in
    lifted-there c.args.grammar.now c.limit-limit.ensures.keyed c.args.at c.unwrap-second.result T _ (c.item.ensures.node S.here.rule S.here.place S.here.there) two sec c.lift.new.self (c.lift.ensures.rules S.here)

pub returns-clause-index : goal.returns-clause-index
returns-clause-index c =
    let T = c.requires.node in
    let S = T.node in
    let U = c.unlink_run.ensures in
    let J = c.link_node.ensures in
    let two = kids-two c.args.grammar.now c.limit-limit.ensures.keyed c.args.at S _ (c.item.ensures.node S.here.rule S.here.place S.here.there) in
    let sec = ap (λ (ks : List Key). slice_get ks 1) (c.item.ensures.kids S.here.rule S.here.place S.here.there) ∙ sym c.get.ensures ∙ c.unwrap-second.ensures in
    let R = lifted-run c.args.grammar.now c.limit-limit.ensures.keyed c.args.at c.unwrap-second.result T _ (c.item.ensures.node S.here.rule S.here.place S.here.there) two sec in
    lifted-index c.args.grammar.now c.limit-limit.ensures.keyed c.args.at c.unwrap-second.result T _ (c.item.ensures.node S.here.rule S.here.place S.here.there) two sec c.lift.new.self (c.lift.ensures.rules S.here)
    c.args.index.now c.unlink_run.new.index c.requires.index (U.free R) (U.others R) U.rules c.link_node.new.index J.part J.right J.others
