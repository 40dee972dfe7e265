use Rattle.std.proofs.Common.{◌≡◌, ◌∙◌, ◌+◌, ◌-◌, ◌<◌, ℕ, List, length, ap, sym, refl, subst, arith}
use Rattle.slt_grammar.specs.Grammars.{calls_of}
use Rattle.slt_grammar.specs.Keyed.{KeyedRule, rules_of}
use Rattle.slt_grammar.specs.Ranks.{greatest_rank}
use Rattle.slt_grammar.proofs.KeyedLemmas.{length-rules_of}
use Rattle.slt_grammar.proofs.KeyedRemovals.{called-on}
use Rattle.slt_grammar.proofs.RankBounds.{rank-dropped}
use Rattle.digram_index.proofs.Marks.{keeps-still, keeps-then}
use Rattle.digram_index.proofs.Numbered.{fewer-same}
use Rattle.rule_pruning.proofs.Turns.{one-fewer}
use Rattle.rule_pruning.proofs.pruning.sweep.Goals as goal

pub loop-rule-init : goal.loop-rule-init
loop-rule-init c =
    let s = c.rules-last.ensures.grammar.some in
    let v = c.rules-last.ensures.value in
    let n = length-rules_of c.args.grammar.now.rules in
    record {
      index = c.requires;
      marks = keeps-still c.args.grammar.now.rules c.args.index.now c.args.index.now (fewer-same c.args.index.now);
      value = refl;
      size = omega arith;
      fewer = omega arith;
      ranks = omega arith;
      some = omega (arith, s, v, n);
      called = λ q h k. absurd (omega (arith, v, n, s, h, k));
    }

pub drop_linked-requires-clause-there : goal.drop_linked-requires-clause-there
drop_linked-requires-clause-there c = omega (arith, c.loop-rule.invariant.some, c.loop-rule-test.true)

pub loop-rule-preserved-then-calls-eq0 : goal.loop-rule-preserved-then-calls-eq0
loop-rule-preserved-then-calls-eq0 c =
    let I = c.loop-rule.invariant in
    let E = c.drop_linked.ensures in
    let e = E.rules in
    let p : ℕ = c.loop-rule.rule - 1 in
    let h : p + 1 < length c.loop-rule.grammar.rules = omega (arith, I.some, c.loop-rule-test.true) in
    let u : calls_of (rules_of c.loop-rule.grammar.rules) p ≡ 0 = sym c.calls.ensures ∙ c.if-calls-eq0.true in
    let w = called-on c.loop-rule.grammar.rules p c.rules-rules.ensures.grammar h u (λ q k l. I.called q (omega (arith, c.loop-rule-test.true, k)) l) in
    record {
      index = E.index;
      marks = keeps-then c.args.grammar.now.rules c.loop-rule.grammar.rules c.drop_linked.new.grammar.rules c.args.index.now c.loop-rule.index c.drop_linked.new.index I.marks E.marks;
      value = E.value ∙ I.value;
      size = omega (arith, I.size, E.size);
      fewer = omega (arith, I.fewer, one-fewer c.loop-rule.grammar.rules p h, ap length e);
      ranks = omega (arith, I.ranks, rank-dropped c.loop-rule.grammar.rules p, ap (λ (G : List KeyedRule). greatest_rank (rules_of G)) e);
      some = omega (arith, w.0, ap length e, h);
      called = λ q k l. subst (λ (G : List KeyedRule). 0 < calls_of (rules_of G) q) (sym e) (w.1 q k (omega (arith, l, ap length e)));
    }
