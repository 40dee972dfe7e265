use Rattle.std.proofs.Common.{◌≡◌}
use Rattle.grammar_file.proofs.TextReading.{IsReadingTexts}
use Rattle.grammar_file.proofs.parsing.read_different.Given as goal

abbrev pub invariant-loop : goal.invariant-loop
invariant-loop l = record {
  reading : IsReadingTexts l.count l.initial.scan l.table.different l.counter l.scan;
  places : l.table.places ≡ l.initial.table.places;
}
