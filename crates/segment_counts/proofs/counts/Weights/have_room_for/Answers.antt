use Rattle.std.proofs.Common.{arith}
use Rattle.segment_counts.specs.declared.counts.Measure.TheVariants.{Nodes}
use Rattle.segment_counts.proofs.counts.Weights.have_room_for.Goals as goal

pub overflow_sub-self : goal.overflow_sub-self
overflow_sub-self c = omega (arith, c.requires Nodes)
