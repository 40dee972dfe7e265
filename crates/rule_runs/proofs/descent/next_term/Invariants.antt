use Rattle.std.proofs.Common.{◌≡◌, List, length}
use Rattle.rule_runs.specs.Cuts.{Stretch}
use Rattle.rule_runs.specs.Descents.{AreOpen, HasRoomAhead, IsAbsorbing}
use Rattle.rule_runs.specs.Tellings.{Listed, IsTelling}
use Rattle.rule_runs.specs.Walks.{Open}
use Rattle.rule_runs.proofs.descent.next_term.Given as goal

abbrev pub decreases-marks : goal.decreases-marks
decreases-marks g l = length l.marks.top

abbrev pub invariant-marks : goal.invariant-marks
invariant-marks g l = record {
  absorbing : (lists : Listed) (s : Stretch) (ms : List (Open g.row.D.Denot)) → IsTelling lists l.initial.here s → AreOpen lists l.initial.marks.top ms → IsAbsorbing lists s ms l.marks.top l.here;
  room : HasRoomAhead l.here l.marks.top;
  below : l.marks.below ≡ l.initial.marks.below;
}
