use Rattle.indexmap.specs.IndexMap.{keys}
use Rattle.fcns_encoding.proofs.PairSteps.{paired-label, paired-pair}
use Rattle.fcns_encoding.proofs.pair_rules.paired_at.Goals as goal

pub returns-in-Some-clause-paired : goal.returns-in-Some-clause-paired
returns-in-Some-clause-paired c =
    let s = c.in-Some.ensures.some in paired-pair (keys c.args.pairs.now) c.args.above s.0 c.in-Some.place c.args.at c.args.labels.now s.1 s.2

pub returns-in-None-clause-paired : goal.returns-in-None-clause-paired
returns-in-None-clause-paired c = paired-label (keys c.args.pairs.now) c.args.above c.args.at c.args.labels.now c.requires.there c.in-None.ensures.none
