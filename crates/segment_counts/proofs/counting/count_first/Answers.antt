use Rattle.std.proofs.Common.{◌+◌, arith, refl, ap, sym, ◌∙◌, length, List, subst, add-one}
use Rattle.std.specs.Prelude.{set}
use Rattle.slt_grammar.specs.Keyed.{rules_of}
use Rattle.segment_counts.specs.Counting.{AreCountsBelow}
use Rattle.segment_counts.specs.Tallies.{row_of}
use Rattle.segment_counts.specs.declared.counts.Weights.{Weights}
use Rattle.segment_counts.proofs.Rows.{below-none, below-more, length-row}
use Rattle.segment_counts.proofs.counting.count_first.Goals as goal

pub loop-rule-init : goal.loop-rule-init
loop-rule-init g c = record {
  counts = below-none c.args.names.now (rules_of c.args.grammar.now.rules) c.clear.new.self.rows;
  rules = c.clear.ensures.rules;
  room = refl;
}

pub loop-rule-preserved : goal.loop-rule-preserved
loop-rule-preserved g c =
    let G = rules_of c.args.grammar.now.rules in
    let r = c.loop-rule.rule in
    let i = c.loop-rule.invariant in
    let C = c.loop-rule.counts.rows in
    let R = row_of c.in-Some.tallies in
    let e = c.push.ensures.rows ∙ ap (λ k. set C k c.row.result.now) i.rules ∙ ap (λ (S : List Weights). set C r S) c.row.ensures in
    record {
      counts = subst (λ (D : List (List Weights)). AreCountsBelow c.args.names.now (r + 1) G D) (sym e)
          (rw (add-one r) (below-more c.args.names.now G r C i.counts (omega (arith, c.loop-rule-test.true, i.room, c.clear.ensures.room, c.requires.room)) R c.in-Some.ensures.row c.in-Some.ensures.few));
      rules = omega (arith, c.push.ensures.rules, i.rules);
      room = ap length e ∙ length-row C r R ∙ i.room;
    }

pub returns-clause-counts : goal.returns-clause-counts
returns-clause-counts g c = λ _.
    let i = c.loop-rule.invariant.counts in
    record {
      each = λ m q j h. i.each m q j (omega (arith, h, c.loop-rule-test.false));
      small = λ m q h. i.small m q (omega (arith, h, c.loop-rule-test.false));
    }
