use Rattle.std.proofs.Common.{◌≡◌, ◌++◌, map, take, drop}
use Rattle.segment_counts.specs.Cuts.{moved}
use Rattle.segment_counts.proofs.row_moves.move_all.Given as goal

abbrev pub invariant-loop-end : goal.invariant-loop-end
invariant-loop-end l = l.ends ≡ map (moved l.from l.to) (take l.end-index l.initial.ends) ++ drop l.end-index l.initial.ends
