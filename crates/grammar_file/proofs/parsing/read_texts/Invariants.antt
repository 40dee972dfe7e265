use Rattle.grammar_file.proofs.TextReading.{IsReadingTexts}
use Rattle.grammar_file.proofs.parsing.read_texts.Given as goal

abbrev pub invariant-loop : goal.invariant-loop
invariant-loop l = IsReadingTexts l.count l.initial.scan l.texts l.counter l.scan
