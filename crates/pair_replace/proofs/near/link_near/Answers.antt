use Rattle.pair_replace.proofs.KidLinks.{around-linked, around-others}
use Rattle.pair_replace.proofs.near.link_near.Goals as goal

pub returns-clause-linked : goal.returns-clause-linked
returns-clause-linked c =
    around-linked c.args.grammar.now c.args.near.now.upper c.args.near.now.lower c.args.near.now.siblings c.args.near.now.children c.link_node.new.index c.link_kids.new.index c.link_kids-2.new.index
    c.link_node.ensures.right c.link_kids.ensures.linked c.link_kids.ensures.kept c.link_kids-2.ensures.linked c.link_kids-2.ensures.kept

pub returns-clause-others : goal.returns-clause-others
returns-clause-others c =
    around-others c.args.near.now.upper c.args.near.now.siblings c.args.near.now.children c.args.index.now c.link_node.new.index c.link_kids.new.index c.link_kids-2.new.index
    c.link_node.ensures.others c.link_kids.ensures.others c.link_kids-2.ensures.others
