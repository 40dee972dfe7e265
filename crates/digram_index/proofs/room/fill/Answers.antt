use Rattle.std.proofs.Common.{arith}
use Rattle.digram_index.proofs.room.fill.Goals as goal

pub returns-clause-most : goal.returns-clause-most
returns-clause-most c = λ m h k. let n = c.loop.invariant.counted in let l = c.loop.invariant.most m h k in omega arith
