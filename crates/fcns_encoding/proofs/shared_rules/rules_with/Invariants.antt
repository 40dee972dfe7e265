use Rattle.std.proofs.Common.{◌≡◌, take}
use Rattle.fcns_encoding.specs.Sharing.{rules_for, ArePlaces}
use Rattle.fcns_encoding.proofs.shared_rules.rules_with.Given as goal

abbrev pub invariant-loop-at : goal.invariant-loop-at
invariant-loop-at l = record {
  rules : l.rules ≡ rules_for l.table.marks.now l.table.cells.now 1 (take l.at l.table.cells.now);
  places : ArePlaces l.table.marks.now l.table.cells.now l.at l.places;
}
