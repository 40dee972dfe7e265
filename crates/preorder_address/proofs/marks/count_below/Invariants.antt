use Rattle.std.proofs.Common.{length, ◌-◌, ◌<◌, ◌≤◌, All, take}
use Rattle.preorder_address.specs.declared.marks.Mark.{Mark}
use Rattle.preorder_address.proofs.marks.count_below.Given as goal

abbrev pub invariant-loop-count : goal.invariant-loop-count
invariant-loop-count l = record {
  few : l.count ≤ length l.marks;
  below : All (λ (mark : Mark). mark.passed.all < l.all) (take l.count l.marks);
}

abbrev pub decreases-loop-count : goal.decreases-loop-count
decreases-loop-count l = length l.marks - l.count
