use Rattle.std.proofs.Common.{◌≡◌, ◌+◌, [], length}
use Rattle.preorder_address.specs.Marks.{AreMarks, MarksFirst}
use Rattle.preorder_address.proofs.Spotting.{Spotting}
use Rattle.preorder_address.proofs.spot.descend.Given as goal

abbrev pub invariant-down : goal.invariant-down
invariant-down g l = record {
  spots : Spotting l.names l.grammar l.fn.number l.levels.items l.rule l.before l.initial.steps l.steps;
  marks : AreMarks l.names l.grammar.rules l.marks;
  first : MarksFirst l.names l.grammar.rules l.levels.items l.first;
  none : l.rule + 1 ≡ length l.grammar.rules → l.levels.items ≡ [];
}

abbrev pub decreases-down : goal.decreases-down
decreases-down g l = l.rule
