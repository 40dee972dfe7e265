use Rattle.std.proofs.Common.{refl}
use Rattle.segment_counts.proofs.Brought.{brought}
use Rattle.segment_counts.proofs.row_moves.bring_forward.Goals as goal

pub returns : goal.returns
returns c = brought _ _ _ _ _ c.requires refl c.rotate_right.ensures.after
