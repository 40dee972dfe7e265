use Rattle.std.proofs.Common.{length, ap, ◌∙◌, arith}
use Rattle.segment_counts.proofs.Cuts.{room-is, table-length}
use Rattle.segment_counts.proofs.counts.Counts.clear.Goals as goal

pub returns-clause-room : goal.returns-clause-room
returns-clause-room c = table-length _ _ _ (omega (arith, ap length c.clear-2.ensures.items)) ∙ room-is _ _ _ _ _ c.self.invariant c.args.self.now c.self.view_is
