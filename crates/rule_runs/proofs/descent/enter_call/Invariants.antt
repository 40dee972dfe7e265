use Rattle.std.proofs.Common.{◌≡◌, ◌≤◌, ◌++◌, List, length, drop, get_or}
use Rattle.rule_runs.specs.Cuts.{Stretch}
use Rattle.rule_runs.specs.Descents.{AreOpen}
use Rattle.rule_runs.specs.Outcomes.{outcome, tolds, downs_handed}
use Rattle.rule_runs.specs.Tellings.{Listed, AreTold}
use Rattle.rule_runs.specs.Walks.{Open, woven_marks}
use Rattle.rule_runs.proofs.descent.enter_call.Given as goal

abbrev pub decreases-arguments : goal.decreases-arguments
decreases-arguments g l = l.left

abbrev pub invariant-arguments : goal.invariant-arguments
invariant-arguments g l = record {
  open_so_far : (lists : Listed) (ms : List (Open g.row.D.Denot)) (ss : List Stretch) → AreOpen lists l.initial.marks.top ms → AreTold lists (tolds (outcome l.handed l.fn.last)) ss
      → AreOpen lists l.marks.top (woven_marks (drop l.left (downs_handed l.handed)) (drop l.left (drop 1 ss)) ++ ms);
  behind : l.behind ≡ get_or (tolds (outcome l.handed l.fn.last)) l.left l.behind;
  within : l.left ≤ length l.handed;
  below : l.marks.below ≡ l.initial.marks.below;
}
