use Rattle.std.proofs.Common.{◌≡◌, ◌≤◌, length, reverse, take}
use Rattle.slt_grammar.specs.Keyed.{rules_of}
use Rattle.rule_runs.specs.Descents.{Walks}
use Rattle.rule_runs.specs.Listing.{AreEarlier}
use Rattle.rule_runs.specs.Risen.{keys, pair_at}
use Rattle.rule_runs.specs.Tellings.{Extends}
use Rattle.rule_runs.proofs.descent.descend.Given as goal

abbrev pub decreases-notes : goal.decreases-notes
decreases-notes g l = l.descent.left

abbrev pub invariant-notes : goal.invariant-notes
invariant-notes g l = record {
  same : l.descent.spot ≡ l.initial.descent.spot;
  more : Extends l.initial.lists l.lists;
  earlier : AreEarlier l.lists.lists;
  stands : Walks (g.A.Rising.algebra l.automaton) (g.A.Falling.downward l.automaton) (rules_of l.grammar.rules) (keys l.risen.known) l.lists (pair_at (keys l.risen.known) l.descent.spot.pair) l.descent.spot.down (reverse (take l.descent.left l.notes)) l.marks.top l.descent.here l.descent.handed.items;
  below : l.marks.below ≡ l.initial.marks.below;
  fewer : l.descent.left ≤ l.initial.descent.left;
  within : l.descent.left ≤ length l.notes;
}
