use Rattle.std.proofs.Common.{◌≡◌}
use Rattle.grammar_file.proofs.PlaceReading.{IsReadingPlaces}
use Rattle.grammar_file.proofs.parsing.read_places.Given as goal

abbrev pub invariant-loop : goal.invariant-loop
invariant-loop l = record {
  reading : IsReadingPlaces l.texts l.count l.initial.scan l.table.places l.counter l.scan;
  different : l.table.different ≡ l.initial.table.different;
}
