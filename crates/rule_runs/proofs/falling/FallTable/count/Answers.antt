use Rattle.rule_runs.proofs.Answering.{listed-counted}
use Rattle.rule_runs.proofs.falling.FallTable.count.Goals as goal

pub returns-clause-listed : goal.returns-clause-listed
returns-clause-listed c = listed-counted c.self.inside.lists c.self.inside.whole c.args.self.now c.self.view_is c.self.invariant
