use Rattle.start_marks.proofs.Moving.{early-stays, late-moves, marks-left}
use Rattle.start_marks.proofs.laws.marks_move.Goals as goal

pub returns : goal.returns
returns c = record { early = early-stays; late = late-moves; lists = marks-left }
