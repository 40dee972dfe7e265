use Rattle.std.proofs.Common.{◌≡◌, take}
use Rattle.slt_grammar.specs.Keyed.{rules_of}
use Rattle.slt_grammar.proofs.listing.list_rules.Given as goal

abbrev pub invariant-loop-rule : goal.invariant-loop-rule
invariant-loop-rule l = l.list ≡ take l.rule (rules_of l.grammar.rules)

abbrev pub ghosts-list_body : goal.ghosts-list_body
ghosts-list_body a = record { name = a.blank.name; parts = a.blank.parts }
