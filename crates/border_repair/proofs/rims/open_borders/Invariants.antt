use Rattle.std.proofs.Common.{◌≡◌, ◌≤◌, ◌++◌, drop, length, reverse}
use Rattle.border_repair.specs.Weighing.{under}
use Rattle.border_repair.proofs.rims.open_borders.Given as goal

abbrev pub invariant-borders : goal.invariant-borders
invariant-borders l = record {
  put : reverse l.coming.items ≡ under l.above (drop l.left l.borders) ++ reverse l.initial.coming.items;
  within : l.left ≤ length l.borders;
}

abbrev pub decreases-borders : goal.decreases-borders
decreases-borders l = l.left
