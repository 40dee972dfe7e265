use Rattle.std.proofs.Common.{drop}
use Rattle.slt_grammar.specs.Keyed.{rules_of}
use Rattle.grammar_file.specs.FileBytes.{list_bytes, rule_bytes}
use Rattle.grammar_file.specs.BufferOf.{seen}
use Rattle.grammar_file.proofs.Sizes.{rule_size}
use Rattle.grammar_file.proofs.Listing.{IsListing}
use Rattle.grammar_file.proofs.writing.write_rules.Given as goal

abbrev pub invariant-loop-rule : goal.invariant-loop-rule
invariant-loop-rule g l = IsListing rule_bytes rule_size (rules_of l.grammar.rules) (list_bytes rule_bytes (rules_of l.grammar.rules)) (drop l.rule (rules_of l.grammar.rules)) (seen g.K.Sink l.fn.out) (seen g.K.Sink l.out)
