use Rattle.std.proofs.Common.{◌∙◌, ◌+◌, List, ap, get_or}
use Rattle.rule_arena.specs.declared.label.Label.{Label}
use Rattle.rule_arena.specs.declared.label.Label.TheVariants.{Bottom}
use Rattle.slt_grammar.specs.Keyed.{nodes_at}
use Rattle.slt_grammar.proofs.Agreeing.{label-is}
use Rattle.slt_grammar.proofs.KeyedLemmas.{body_at-rules_of}
use Rattle.grammar_tests.proofs.calls_again.symbol_behind.Goals as goal

pub returns-in-Symbol : goal.returns-in-Symbol
returns-in-Symbol g c =
    let G = c.args.grammar.now.rules in
    let S = c.requires.here in
    let there = c.in_ok-next.ensures.next S.rule S.place S.there in
    let node = c.in-Symbol.ensures.node S.rule (S.place + 1) there in
    record {
      here = record { rule = S.rule; place = S.place + 1; there = there };
      symbol = c.in-Symbol.field-0;
      label = ap (λ (ls : List Label). get_or ls (S.place + 1) Bottom) (body_at-rules_of G S.rule) ∙ label-is (nodes_at G S.rule) (S.place + 1) _ node.1;
    }
