use Rattle.slt_grammar.specs.Keyed.{rules_of}
use Rattle.grammar_file.specs.TextLists.{AreTextLists}
use Rattle.grammar_file.proofs.text_lists.list_texts.Given as goal

abbrev pub invariant-rules : goal.invariant-rules
invariant-rules g l = AreTextLists l.names (rules_of l.grammar.rules) l.rule l.lists.items
