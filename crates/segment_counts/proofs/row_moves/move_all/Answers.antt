use Rattle.std.proofs.Common.{arith, get_or}
use Rattle.std.proofs.lemmas.List.{get_or_default}
use Rattle.std.proofs.lemmas.List.Edits.{map_over_more}
use Rattle.segment_counts.specs.Cuts.{moved}
use Rattle.segment_counts.proofs.row_moves.move_all.Goals as goal

pub loop-end-preserved : goal.loop-end-preserved
loop-end-preserved c = map_over_more (moved c.args.from c.args.to) c.args.ends.now c.loop-end.ends c.loop-end.end-index (get_or c.loop-end.ends c.loop-end.end-index 0) (omega (arith, c.loop-end-test.true)) c.loop-end.invariant (get_or_default c.loop-end.ends c.loop-end.end-index 0 (get_or c.loop-end.ends c.loop-end.end-index 0) (omega (arith, c.loop-end-test.true, c.loop-end.auto.ends)))
