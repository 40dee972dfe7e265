use Rattle.std.proofs.Common.{List, sym, subst}
use Rattle.slt_grammar.specs.Keyed.{KeyedRule, rules_of}
use Rattle.slt_grammar.specs.RulePuts.{IsLawfulBefore}
use Rattle.slt_grammar.proofs.grammar.Grammar.add_rule.Goals as goal

pub put_rule-requires-clause-body : goal.put_rule-requires-clause-body
put_rule-requires-clause-body c =
    subst (λ (G : List KeyedRule). IsLawfulBefore (rules_of G) c.args.place c.args.rank c.args.body.now) (sym c.in_ok-reserve.ensures.rules) c.requires.body
