use Rattle.std.proofs.Common.{◌∙◌}
use Rattle.slt_grammar.proofs.TourWalking.{skips-to, skips-all, no_more}
use Rattle.slt_grammar.proofs.tour_walk.TourWalk.advance_to_node.Goals as goal

pub returns-clause-next : goal.returns-clause-next
returns-clause-next g c = λ r m left s.
    skips-to c.args.grammar.now.rules r c.args.self.now m left s c.in-Some.key (c.next_in_preorder.ensures.next r s.last s.last_there ∙ c.in-Some.is)

pub returns-in_default-clause-next : goal.returns-in_default-clause-next
returns-in_default-clause-next g c = λ r m left s.
    skips-all c.args.grammar.now.rules r c.args.self.now m left s c.args.self.now (c.next_in_preorder.ensures.next r s.last s.last_there ∙ no_more c.next_in_preorder.result c.in_default.not-Some)
