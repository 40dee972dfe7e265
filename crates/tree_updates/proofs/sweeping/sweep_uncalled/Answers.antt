use Rattle.std.proofs.Common.{◌≡◌, ◌∙◌, ◌+◌, ◌-◌, ◌<◌, ℕ, List, [], length, ap, sym, refl, subst, arith}
use Rattle.slt_grammar.specs.Grammars.{calls_of}
use Rattle.slt_grammar.specs.Keyed.{KeyedRule, rules_of}
use Rattle.slt_grammar.specs.Ranks.{greatest_rank}
use Rattle.slt_grammar.proofs.KeyedLemmas.{length-rules_of}
use Rattle.slt_grammar.proofs.KeyedRemovals.{called-on}
use Rattle.slt_grammar.proofs.RankBounds.{rank-dropped}
use Rattle.start_fronts.specs.Before.{KeepsBefore}
use Rattle.start_fronts.proofs.Composing.{keeps-all, keeps-both}
use Rattle.start_fronts.proofs.Renumbered.{keeps-dropping}
use Rattle.tree_updates.proofs.MovedMarks.{marks-kept}
use Rattle.tree_updates.proofs.sweeping.sweep_uncalled.Goals as goal

pub loop-rule-init : goal.loop-rule-init
loop-rule-init c =
    let s = c.rules-last.ensures.grammar.some in
    let v = c.rules-last.ensures.value in
    let n = length-rules_of c.args.grammar.now.rules in
    record {
      index = c.requires.index;
      value = refl;
      size = omega arith;
      ranks = omega arith;
      fewer = omega arith;
      some = omega (arith, s, v, n);
      called = λ q h k. absurd (omega (arith, v, n, s, h, k));
      counts = λ names a. a;
      before = keeps-all c.args.grammar.now.rules;
      spare_nodes = omega arith;
      spare_rules = omega arith;
      limit = refl;
      links = refl;
      numbers = omega arith;
      cells = refl;
      room = refl;
    }

pub drop_linked-requires-clause-there : goal.drop_linked-requires-clause-there
drop_linked-requires-clause-there c = omega (arith, c.loop-rule.invariant.some, c.loop-rule-test.true)

pub remove_rule-requires : goal.remove_rule-requires
remove_rule-requires c =
    let a = c.requires.counts in
    omega (arith, (c.loop-rule.invariant.counts a.0 a.1).rules, length-rules_of c.loop-rule.grammar.rules, c.loop-rule.invariant.some, c.loop-rule-test.true)

pub loop-rule-preserved-then-calls-eq0 : goal.loop-rule-preserved-then-calls-eq0
loop-rule-preserved-then-calls-eq0 c =
    let I = c.loop-rule.invariant in
    let E = c.drop_linked.ensures in
    let e = E.rules in
    let p : ℕ = c.loop-rule.rule - 1 in
    let h : p + 1 < length c.loop-rule.grammar.rules = omega (arith, I.some, c.loop-rule-test.true) in
    let u : calls_of (rules_of c.loop-rule.grammar.rules) p ≡ 0 = sym c.calls.ensures ∙ c.if-calls-eq0.true in
    let w = called-on c.loop-rule.grammar.rules p c.limit-limit.ensures.keyed.grammar h u (λ q k l. I.called q (omega (arith, c.loop-rule-test.true, k)) l) in
    record {
      index = E.index;
      value = E.value ∙ I.value;
      size = omega (arith, I.size, E.size);
      ranks = omega (arith, I.ranks, rank-dropped c.loop-rule.grammar.rules p, ap (λ (G : List KeyedRule). greatest_rank (rules_of G)) e);
      fewer = omega (arith, I.fewer, E.values.more, length-rules_of c.loop-rule.grammar.rules, length-rules_of c.drop_linked.new.grammar.rules);
      some = omega (arith, w.0, ap length e, h);
      called = λ q k l. subst (λ (G : List KeyedRule). 0 < calls_of (rules_of G) q) (sym e) (w.1 q k (omega (arith, l, ap length e)));
      counts = λ names a. c.remove_rule.ensures.counts names (rules_of c.drop_linked.new.grammar.rules) (rules_of c.loop-rule.grammar.rules) (I.counts names a) E.values;
      before =
          keeps-both [] [] c.args.grammar.now.rules c.loop-rule.grammar.rules c.drop_linked.new.grammar.rules I.before
          (subst (λ (K : List KeyedRule). KeepsBefore [] c.loop-rule.grammar.rules K) (sym e) (keeps-dropping c.loop-rule.grammar c.limit-limit.ensures.keyed p h u));
      spare_nodes = omega (arith, I.spare_nodes, E.spare_nodes);
      spare_rules = omega (arith, I.spare_rules, E.spare_rules);
      limit = E.limit ∙ I.limit;
      links = E.links ∙ I.links;
      numbers = omega (arith, I.numbers, E.numbers);
      cells = E.cells ∙ I.cells;
      room = c.remove_rule.ensures.room ∙ I.room;
    }

pub returns-clause-marks : goal.returns-clause-marks
returns-clause-marks c = λ names marks a. marks-kept names c.args.grammar.now.rules c.loop-rule.grammar.rules marks c.loop-rule.invariant.before a
