use Rattle.slt_grammar.proofs.TourWalking.{stands-root}
use Rattle.slt_grammar.proofs.tour_walk.TourWalk.new.Goals as goal

pub returns : goal.returns
returns c = record { stands = stands-root c.args.grammar.now.rules c.args.rule c.root-root.result c.root-root.ensures }
