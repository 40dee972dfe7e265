use Rattle.std.proofs.Common.{◌∙◌, List, ap, get_or}
use Rattle.rule_arena.specs.declared.label.Label.{Label}
use Rattle.rule_arena.specs.declared.label.Label.TheVariants.{Bottom}
use Rattle.slt_grammar.specs.Keyed.{nodes_at}
use Rattle.slt_grammar.proofs.Agreeing.{label-is}
use Rattle.slt_grammar.proofs.KeyedLemmas.{body_at-rules_of}
use Rattle.grammar_tests.proofs.calls_again.is_call.Goals as goal

pub returns-in-Call : goal.returns-in-Call
returns-in-Call g c = λ yes.
    let G = c.args.grammar.now.rules in
    let S = c.requires.here in
    let node = c.in-Call.ensures.node S.rule S.place S.there in
    record {
      here = S;
      called = c.in-Call.field-0;
      label = ap (λ (ls : List Label). get_or ls S.place Bottom) (body_at-rules_of G S.rule) ∙ label-is (nodes_at G S.rule) S.place _ node.1;
    }
