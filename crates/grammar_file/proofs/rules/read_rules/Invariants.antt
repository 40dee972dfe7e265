use Rattle.grammar_file.proofs.RuleReading.{IsReadingRules}
use Rattle.grammar_file.proofs.rules.read_rules.Given as goal

abbrev pub invariant-loop : goal.invariant-loop
invariant-loop l = IsReadingRules l.names l.count l.initial.scan l.rules l.counter l.scan
