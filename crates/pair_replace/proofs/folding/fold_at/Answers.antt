use Rattle.pair_replace.proofs.FoldIndex.{part, upper-stands, siblings-stand, children-stand, folded-index, far-same}
use Rattle.pair_replace.proofs.KeptMarks.{keeps-fold}
use Rattle.pair_replace.proofs.folding.fold_at.Goals as goal

pub link_near-requires-clause-part : goal.link_near-requires-clause-part
link_near-requires-clause-part c =
    let F = c.requires.fold in
    let n = c.near_nodes-near.ensures in
    let u = c.unlink_near.ensures in
    part c.args.grammar.now c.fold.new.self c.limit-limit.ensures.keyed c.args.lower c.args.rule F (c.fold.ensures.rules F) c.near_nodes-near.result.upper c.near_nodes-near.result.siblings c.near_nodes-near.result.children
    (n.upper c.args.rule F) (n.siblings c.args.rule F) (n.children c.args.rule F) c.args.apart c.requires.apart c.args.index.now c.unlink_near.new.index c.requires.index u.free u.others u.stays u.rules

pub link_near-requires-clause-upper : goal.link_near-requires-clause-upper
link_near-requires-clause-upper c =
    let F = c.requires.fold in
    let n = c.near_nodes-near.ensures in
    let u = c.unlink_near.ensures in
    upper-stands c.args.grammar.now c.fold.new.self c.limit-limit.ensures.keyed c.args.lower c.args.rule F (c.fold.ensures.rules F) c.near_nodes-near.result.upper c.near_nodes-near.result.siblings c.near_nodes-near.result.children
    (n.upper c.args.rule F) (n.siblings c.args.rule F) (n.children c.args.rule F) c.args.apart c.requires.apart c.args.index.now c.unlink_near.new.index c.requires.index u.free u.others u.stays u.rules

pub link_near-requires-clause-siblings : goal.link_near-requires-clause-siblings
link_near-requires-clause-siblings c =
    let F = c.requires.fold in
    let n = c.near_nodes-near.ensures in
    let u = c.unlink_near.ensures in
    rw n.lower (siblings-stand c.args.grammar.now c.fold.new.self c.limit-limit.ensures.keyed c.args.lower c.args.rule F (c.fold.ensures.rules F) c.near_nodes-near.result.upper c.near_nodes-near.result.siblings c.near_nodes-near.result.children
    (n.upper c.args.rule F) (n.siblings c.args.rule F) (n.children c.args.rule F) c.args.apart c.requires.apart c.args.index.now c.unlink_near.new.index c.requires.index u.free u.others u.stays u.rules)

pub link_near-requires-clause-children : goal.link_near-requires-clause-children
link_near-requires-clause-children c =
    let F = c.requires.fold in
    let n = c.near_nodes-near.ensures in
    let u = c.unlink_near.ensures in
    rw n.lower (children-stand c.args.grammar.now c.fold.new.self c.limit-limit.ensures.keyed c.args.lower c.args.rule F (c.fold.ensures.rules F) c.near_nodes-near.result.upper c.near_nodes-near.result.siblings c.near_nodes-near.result.children
    (n.upper c.args.rule F) (n.siblings c.args.rule F) (n.children c.args.rule F) c.args.apart c.requires.apart c.args.index.now c.unlink_near.new.index c.requires.index u.free u.others u.stays u.rules)

pub returns-clause-index : goal.returns-clause-index
returns-clause-index c =
    let F = c.requires.fold in
    let n = c.near_nodes-near.ensures in
    let u = c.unlink_near.ensures in
    let l = rw n.lower at c.link_near.ensures.linked in
    folded-index c.args.grammar.now c.fold.new.self c.limit-limit.ensures.keyed c.args.lower c.args.rule F (c.fold.ensures.rules F) c.near_nodes-near.result.upper c.near_nodes-near.result.siblings c.near_nodes-near.result.children
    (n.upper c.args.rule F) (n.siblings c.args.rule F) (n.children c.args.rule F) c.args.apart c.requires.apart c.args.index.now c.unlink_near.new.index c.requires.index u.free u.others u.stays u.rules
    c.link_near.new.index c.link_near.ensures.part l c.link_near.ensures.others

pub returns-clause-others : goal.returns-clause-others
returns-clause-others c = λ F.
    let n = c.near_nodes-near.ensures in
    let u = c.unlink_near.ensures in
    far-same c.args.grammar.now c.fold.new.self c.limit-limit.ensures.keyed c.args.lower c.args.rule F (c.fold.ensures.rules F) c.near_nodes-near.result.upper c.near_nodes-near.result.siblings c.near_nodes-near.result.children
    (n.upper c.args.rule F) (n.siblings c.args.rule F) (n.children c.args.rule F) c.args.apart c.requires.apart c.args.index.now c.unlink_near.new.index c.requires.index u.free u.others u.stays u.rules
    c.link_near.new.index c.link_near.ensures.others

pub returns-clause-marks : goal.returns-clause-marks
returns-clause-marks c =
    let F = c.requires.fold in
    let n = c.near_nodes-near.ensures in
    let u = c.unlink_near.ensures in
    keeps-fold c.args.grammar.now c.fold.new.self c.limit-limit.ensures.keyed c.args.lower c.args.rule F (c.fold.ensures.rules F) c.near_nodes-near.result.upper c.near_nodes-near.result.siblings c.near_nodes-near.result.children
    (n.siblings c.args.rule F) c.args.index.now c.unlink_near.new.index c.link_near.new.index u.marks u.free c.is_marked-marked.ensures.linked c.link_near.ensures.marks c.fold.ensures.values
