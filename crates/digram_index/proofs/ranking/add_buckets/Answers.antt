use Rattle.std.proofs.Common.{arith}
use Rattle.digram_index.proofs.Levels.{enough-buckets}
use Rattle.digram_index.proofs.ranking.add_buckets.Goals as goal

pub returns-clause-room : goal.returns-clause-room
returns-clause-room c = enough-buckets c.args.greatest c.max.result c.level.result c.loop.ranking.groups (omega arith) c.level.ensures.level (omega arith)
