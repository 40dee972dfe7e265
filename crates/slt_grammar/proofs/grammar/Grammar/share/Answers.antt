use Rattle.std.proofs.Common.{◌∙◌, ◌-◌, List, length, ap, sym, subst}
use Rattle.slt_grammar.specs.Keyed.{KeyedRule, rules_of}
use Rattle.slt_grammar.specs.KeyedEdits.{Stands, rule_shared}
use Rattle.slt_grammar.specs.RuleValues.{HasRuleMore}
use Rattle.slt_grammar.proofs.grammar.Grammar.share.Goals as goal

pub returns-clause-rules : goal.returns-clause-rules
returns-clause-rules c = λ S.
    let e = c.in_ok-reserve.ensures.rules in
    let T : Stands c.reserve.new.self.rules c.args.at = subst (λ (G : List KeyedRule). Stands G c.args.at) (sym e) S in
    c.move_out.ensures.rules T ∙ ap (λ (G : List KeyedRule). rule_shared G S.rule S.place c.move_out.result) e

pub returns-clause-values : goal.returns-clause-values
returns-clause-values c =
    subst (λ (G : List KeyedRule). HasRuleMore (length G - 1) (rules_of G) (rules_of c.move_out.new.self.rules)) c.in_ok-reserve.ensures.rules c.move_out.ensures.values
