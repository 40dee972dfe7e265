use Rattle.segment_counts.proofs.Cuts.{room-is}
use Rattle.segment_counts.proofs.counts.Counts.room.Goals as goal

pub returns : goal.returns
returns c = room-is _ _ _ _ _ c.self.invariant c.args.self.now c.self.view_is
