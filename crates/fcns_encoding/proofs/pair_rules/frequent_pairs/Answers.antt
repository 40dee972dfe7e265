use Rattle.fcns_encoding.proofs.PairSteps.{apart, retained}
use Rattle.indexmap.specs.IndexMap.{keys}
use Rattle.fcns_encoding.proofs.pair_rules.frequent_pairs.Goals as goal

pub returns-clause-found : goal.returns-clause-found
returns-clause-found c i p e =
    let was = retained _ _ c.in_ok-pairs.pairs.entries c.retain.new.self.entries c.retain.ensures.filtered i p e in c.in_ok-pairs.ensures was.0 p was.1

pub returns-clause-apart : goal.returns-clause-apart
returns-clause-apart c = apart (keys c.retain.new.self) c.retain.ensures.unique
