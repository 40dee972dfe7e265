use Rattle.std.proofs.Common.{◌≤◌, length, reverse}
use Rattle.content_models.proofs.Placing.{Placed}
use Rattle.content_models.proofs.compiling.read_places.Given as goal

abbrev pub invariant-loop-left : goal.invariant-loop-left
invariant-loop-left l = record {
  placed : Placed l.names l.model l.code l.fronts l.initial.rows.items l.rows.items l.at (reverse l.ways.items) l.left;
  within : l.left ≤ length l.code;
  small : l.at ≤ 64;
}

abbrev pub decreases-loop-left : goal.decreases-loop-left
decreases-loop-left l = l.left
