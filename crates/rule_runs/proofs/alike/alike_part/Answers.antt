use Rattle.rule_runs.proofs.OneSymbol.{list-part}
use Rattle.rule_runs.proofs.alike.alike_part.Goals as goal

pub returns-in-List-clause-alike : goal.returns-in-List-clause-alike
returns-in-List-clause-alike c = λ hits k. list-part hits c.args.known.now c.args.part c.in-List.at c.in-List.list c.alike_list.result c.in-List.is c.alike_list.ensures k
