use Rattle.std.proofs.Common.{Err, ap, arith}
use Rattle.store_core.proofs.loading.counts_of.Goals as goal

pub unreachable-requires : goal.unreachable-requires
unreachable-requires c = omega (arith, c.in-Err.ensures.many (ap Err c.in-TooMany.is), c.requires.few)
