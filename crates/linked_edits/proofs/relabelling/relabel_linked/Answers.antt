use Rattle.std.proofs.Common.{inl, inr, List, slice_get, refl, ap, ◌∙◌}
use Rattle.rule_arena.specs.declared.key.Key.{Key}
use Rattle.digram_index.proofs.NodeLinks.{kept-right}
use Rattle.linked_edits.proofs.Relabelled.{index-after, key-stays, kid-stands, part-before, some-first, some-second, three-free, two-kids, two-told}
use Rattle.linked_edits.proofs.relabelling.relabel_linked.Goals as goal

pub unwrap-first-requires : goal.unwrap-first-requires
unwrap-first-requires c =
    let S = c.requires.node in
    some-first c.item-kids.result.kids c.get.result (two-kids c.args.grammar.now c.limit-before.ensures.keyed c.args.at S _ (c.item-kids.ensures.node S.here.rule S.here.place S.here.there)) c.get.ensures

pub unwrap-second-requires : goal.unwrap-second-requires
unwrap-second-requires c =
    let S = c.requires.node in
    some-second c.item-kids.result.kids c.get-2.result (two-kids c.args.grammar.now c.limit-before.ensures.keyed c.args.at S _ (c.item-kids.ensures.node S.here.rule S.here.place S.here.there)) c.get-2.ensures

pub link_node-requires-clause-part : goal.link_node-requires-clause-part
link_node-requires-clause-part c =
    let S = c.requires.node.here in
    let A = c.unlink_node.ensures in
    let B = c.unlink_node-2.ensures in
    let D = c.unlink_node-3.ensures in
    part-before c.args.grammar.now c.relabel.new.self c.limit-before.ensures.keyed c.args.at c.unwrap-first.result c.unwrap-second.result S c.args.symbol (c.relabel.ensures.rules S) (two-told c.args.grammar.now c.limit-before.ensures.keyed c.args.at c.requires.node c.item-kids.result.kids _ (c.item-kids.ensures.node c.requires.node.here.rule c.requires.node.here.place c.requires.node.here.there) refl
    (c.item-kids.ensures.kids c.requires.node.here.rule c.requires.node.here.place c.requires.node.here.there) c.get.result c.get-2.result c.unwrap-first.result c.unwrap-second.result c.get.ensures c.unwrap-first.ensures c.get-2.ensures c.unwrap-second.ensures) c.args.index.now
    c.unlink_node-3.new.index c.requires.index
    (three-free c.args.at c.unwrap-first.result c.unwrap-second.result c.unlink_node.new.index c.unlink_node-2.new.index c.unlink_node-3.new.index A.free B.free B.others D.free D.others)
    (λ n d. D.others n (λ e. d (inr (inr e))) ∙ B.others n (λ e. d (inr (inl e))) ∙ A.others n (λ e. d (inl e))) (D.rules ∙ B.rules ∙ A.rules)

pub link_node-requires-clause-there : goal.link_node-requires-clause-there
link_node-requires-clause-there c =
    let T = c.requires.node.here in
    record {
      rule = T.rule;
      place = T.place;
      there = key-stays c.args.grammar.now c.relabel.new.self c.limit-before.ensures.keyed c.args.at c.unwrap-first.result c.unwrap-second.result c.requires.node.here c.args.symbol (c.relabel.ensures.rules c.requires.node.here) (two-told c.args.grammar.now c.limit-before.ensures.keyed c.args.at c.requires.node c.item-kids.result.kids _ (c.item-kids.ensures.node c.requires.node.here.rule c.requires.node.here.place c.requires.node.here.there) refl
          (c.item-kids.ensures.kids c.requires.node.here.rule c.requires.node.here.place c.requires.node.here.there) c.get.result c.get-2.result c.unwrap-first.result c.unwrap-second.result c.get.ensures c.unwrap-first.ensures c.get-2.ensures c.unwrap-second.ensures) T.rule T.place ∙ T.there;
    }

pub link_node-requires-2-clause-there : goal.link_node-requires-2-clause-there
link_node-requires-2-clause-there c =
    let two = (two-told c.args.grammar.now c.limit-before.ensures.keyed c.args.at c.requires.node c.item-kids.result.kids _ (c.item-kids.ensures.node c.requires.node.here.rule c.requires.node.here.place c.requires.node.here.there) refl
    (c.item-kids.ensures.kids c.requires.node.here.rule c.requires.node.here.place c.requires.node.here.there) c.get.result c.get-2.result c.unwrap-first.result c.unwrap-second.result c.get.ensures c.unwrap-first.ensures c.get-2.ensures c.unwrap-second.ensures) in
    let T = kid-stands c.args.grammar.now c.limit-before.ensures.keyed c.args.at c.requires.node.here 0 c.unwrap-first.result (ap (λ (ks : List Key). slice_get ks 0) two) in
    record {
      rule = T.rule;
      place = T.place;
      there = key-stays c.args.grammar.now c.relabel.new.self c.limit-before.ensures.keyed c.args.at c.unwrap-first.result c.unwrap-second.result c.requires.node.here c.args.symbol (c.relabel.ensures.rules c.requires.node.here) two T.rule T.place ∙ T.there;
    }

pub link_node-requires-3-clause-there : goal.link_node-requires-3-clause-there
link_node-requires-3-clause-there c =
    let two = (two-told c.args.grammar.now c.limit-before.ensures.keyed c.args.at c.requires.node c.item-kids.result.kids _ (c.item-kids.ensures.node c.requires.node.here.rule c.requires.node.here.place c.requires.node.here.there) refl
    (c.item-kids.ensures.kids c.requires.node.here.rule c.requires.node.here.place c.requires.node.here.there) c.get.result c.get-2.result c.unwrap-first.result c.unwrap-second.result c.get.ensures c.unwrap-first.ensures c.get-2.ensures c.unwrap-second.ensures) in
    let T = kid-stands c.args.grammar.now c.limit-before.ensures.keyed c.args.at c.requires.node.here 1 c.unwrap-second.result (ap (λ (ks : List Key). slice_get ks 1) two) in
    record {
      rule = T.rule;
      place = T.place;
      there = key-stays c.args.grammar.now c.relabel.new.self c.limit-before.ensures.keyed c.args.at c.unwrap-first.result c.unwrap-second.result c.requires.node.here c.args.symbol (c.relabel.ensures.rules c.requires.node.here) two T.rule T.place ∙ T.there;
    }

pub returns-clause-index : goal.returns-clause-index
returns-clause-index c =
    let S = c.requires.node.here in
    let A = c.unlink_node.ensures in
    let B = c.unlink_node-2.ensures in
    let D = c.unlink_node-3.ensures in
    let h = c.relabel.new.self in
    let X = c.link_node.ensures in
    let Y = c.link_node-2.ensures in
    let Z = c.link_node-3.ensures in
    let first : Key = c.unwrap-first.result in
    let second : Key = c.unwrap-second.result in
    index-after c.args.grammar.now h c.limit-before.ensures.keyed c.args.at first second S c.args.symbol (c.relabel.ensures.rules S) (two-told c.args.grammar.now c.limit-before.ensures.keyed c.args.at c.requires.node c.item-kids.result.kids _ (c.item-kids.ensures.node c.requires.node.here.rule c.requires.node.here.place c.requires.node.here.there) refl
    (c.item-kids.ensures.kids c.requires.node.here.rule c.requires.node.here.place c.requires.node.here.there) c.get.result c.get-2.result c.unwrap-first.result c.unwrap-second.result c.get.ensures c.unwrap-first.ensures c.get-2.ensures c.unwrap-second.ensures) c.args.index.now c.unlink_node-3.new.index c.requires.index
    (three-free c.args.at first second c.unlink_node.new.index c.unlink_node-2.new.index c.unlink_node-3.new.index A.free B.free B.others D.free D.others)
    (λ n d. D.others n (λ e. d (inr (inr e))) ∙ B.others n (λ e. d (inr (inl e))) ∙ A.others n (λ e. d (inl e))) (D.rules ∙ B.rules ∙ A.rules)
    c.link_node-3.new.index Z.part
    (kept-right h second c.link_node-2.new.index c.link_node-3.new.index Z.right Z.others c.args.at (kept-right h first c.link_node.new.index c.link_node-2.new.index Y.right Y.others c.args.at X.right))
    (kept-right h second c.link_node-2.new.index c.link_node-3.new.index Z.right Z.others first Y.right) Z.right
    (λ n d. Z.others n (λ e. d (inr (inr e))) ∙ Y.others n (λ e. d (inr (inl e))) ∙ X.others n (λ e. d (inl e)))
