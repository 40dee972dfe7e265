use Rattle.std.proofs.Common.{◌∙◌, ◌-◌, List, ap, get_or, arith}
use Rattle.rule_arena.specs.declared.label.Label.{Label}
use Rattle.rule_arena.specs.declared.label.Label.TheVariants.{Bottom}
use Rattle.slt_grammar.specs.Keyed.{nodes_at}
use Rattle.slt_grammar.proofs.Agreeing.{label-is}
use Rattle.slt_grammar.proofs.KeyedLemmas.{body_at-rules_of, length-rules_of}
use Rattle.grammar_tests.proofs.edits.second_symbol.Goals as goal

pub returns-in-Symbol : goal.returns-in-Symbol
returns-in-Symbol g c =
    let G = c.args.grammar.now.rules in
    let r = c.rules-rule.result - 1 in
    let there = c.in_ok-key.ensures.next r 0 c.root.ensures in
    let node = c.in-Symbol.ensures.node r 1 there in
    record {
      node = record {
        here = record { rule = r; place = 1; there = there };
        symbol = c.in-Symbol.field-0;
        label = ap (λ (ls : List Label). get_or ls 1 Bottom) (body_at-rules_of G r) ∙ label-is (nodes_at G r) 1 _ node.1;
      };
      start = omega (arith, c.rules-rule.ensures.value, c.rules-rule.ensures.grammar.some, length-rules_of G);
    }
