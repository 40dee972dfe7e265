use Rattle.std.proofs.Common.{◌≡◌, ◌∙◌, ◌+◌, ◌-◌, ◌<◌, ℕ, List, length, ap, sym, refl, subst, arith}
use Rattle.slt_grammar.specs.Grammars.{calls_of}
use Rattle.slt_grammar.specs.Keyed.{KeyedRule, rules_of}
use Rattle.slt_grammar.specs.KeyedEdits.{DropsTo}
use Rattle.slt_grammar.specs.KeyedEdits.DropsTo.{NoDrop, Drop}
use Rattle.slt_grammar.proofs.KeyedLemmas.{length-rules_of}
use Rattle.slt_grammar.proofs.KeyedRemovals.{called-on}
use Rattle.slt_grammar.proofs.grammar.Grammar.sweep.Goals as goal

pub loop-rule-init : goal.loop-rule-init
loop-rule-init c =
    let s = c.rules-last.ensures.grammar.some in
    let v = c.rules-last.ensures.value in
    let n = length-rules_of c.args.self.now.rules in
    record {
      drops = NoDrop c.args.self.now.rules;
      value = refl;
      size = omega arith;
      some = omega (arith, s, v, n);
      called = λ q h k. absurd (omega (arith, v, n, s));
      spare_nodes = omega arith;
      spare_rules = omega arith;
      limit = refl;
    }

pub loop-rule-preserved-then-calls-eq0 : goal.loop-rule-preserved-then-calls-eq0
loop-rule-preserved-then-calls-eq0 c =
    let I = c.loop-rule.invariant in
    let e = c.drop_rule.ensures.rules in
    let p : ℕ = c.loop-rule.rule - 1 in
    let h : p + 1 < length c.loop-rule.self.rules = omega (arith, I.some, c.loop-rule-test.true) in
    let u : calls_of (rules_of c.loop-rule.self.rules) p ≡ 0 = sym c.calls.ensures ∙ c.if-calls-eq0.true in
    let w = called-on c.loop-rule.self.rules p c.rules-rules.ensures.grammar h u (λ q k l. I.called q (omega (arith, c.loop-rule-test.true)) l) in
    record {
      drops = subst (λ (G : List KeyedRule). DropsTo c.args.self.now.rules G) (sym e) (Drop c.args.self.now.rules c.loop-rule.self.rules p I.drops h u);
      value = c.drop_rule.ensures.value ∙ I.value;
      size = omega (arith, I.size, c.drop_rule.ensures.size);
      some = omega (arith, w.0, ap length e, h);
      called = λ q k l. subst (λ (G : List KeyedRule). 0 < calls_of (rules_of G) q) (sym e) (w.1 q k (omega (arith, ap length e)));
      spare_nodes = omega (arith, I.spare_nodes, c.drop_rule.ensures.spare_nodes);
      spare_rules = omega (arith, I.spare_rules, c.drop_rule.ensures.spare_rules);
      limit = c.drop_rule.ensures.limit ∙ I.limit;
    }
