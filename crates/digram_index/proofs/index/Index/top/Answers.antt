use Rattle.digram_index.proofs.PlainDigrams.{three-disjoint, three-apart, some-then, none-then}
use Rattle.digram_index.proofs.index.Index.top.Goals as goal

pub returns-clause-three : goal.returns-clause-three
returns-clause-three c = some-then _ _ c.frequent.result (three-disjoint c.args.grammar.now c.limit-limit.ensures.keyed) c.frequent.ensures.apart

pub returns-clause-none : goal.returns-clause-none
returns-clause-none c = none-then _ _ c.frequent.result (λ n d w h. n d w (three-apart c.args.grammar.now c.limit-limit.ensures.keyed d h)) c.frequent.ensures.none
