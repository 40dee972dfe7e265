use Rattle.digram_index.proofs.PlainDigrams.{two-disjoint, two-apart, some-then, none-then}
use Rattle.digram_index.proofs.index.Index.twice.Goals as goal

pub returns-clause-two : goal.returns-clause-two
returns-clause-two c = some-then _ _ c.frequent.result (two-disjoint c.args.grammar.now c.limit-limit.ensures.keyed) c.frequent.ensures.apart

pub returns-clause-none : goal.returns-clause-none
returns-clause-none c = none-then _ _ c.frequent.result (λ n d w h. n d w (two-apart c.args.grammar.now c.limit-limit.ensures.keyed d h)) c.frequent.ensures.none
