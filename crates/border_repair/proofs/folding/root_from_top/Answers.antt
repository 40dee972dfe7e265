use Rattle.std.proofs.Common.{◌∙◌}
use Rattle.border_repair.proofs.FoldSteps.{from-top, top-is}
use Rattle.border_repair.proofs.folding.root_from_top.Goals as goal

pub returns-in-Some-clause-some : goal.returns-in-Some-clause-some
returns-in-Some-clause-some c = from-top c.args.roots.now c.args.place c.in-Some.at c.in-Some.ensures.1 c.in-Some.ensures.0 c.root_at.result c.root_at.ensures

pub returns-in-Some-clause-one : goal.returns-in-Some-clause-one
returns-in-Some-clause-one c y t = c.root_at.ensures ∙ top-is c.args.roots.now c.args.place c.in-Some.at c.in-Some.ensures.1 y t
