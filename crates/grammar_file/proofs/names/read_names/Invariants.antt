use Rattle.grammar_file.proofs.NameReading.{IsReadingNames}
use Rattle.grammar_file.proofs.names.read_names.Given as goal

abbrev pub invariant-loop : goal.invariant-loop
invariant-loop l = IsReadingNames l.count l.initial.scan l.names l.counter l.scan
