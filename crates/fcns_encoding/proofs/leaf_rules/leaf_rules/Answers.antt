use Rattle.std.proofs.Common.{◌<◌, get_or, length, ap, sym, subst, ◌∙◌, arith}
use Rattle.std.specs.Prelude.{None}
use Rattle.fcns_encoding.specs.Leaves.{AreLeafRules}
use Rattle.fcns_encoding.proofs.LeafSteps.{leaf-added}
use Rattle.fcns_encoding.proofs.leaf_rules.leaf_rules.Goals as goal
use Rattle.fcns_encoding.proofs.leaf_rules.leaf_rules.Goals.{then-counts-symbol+in_ok-leaf_body+in_ok-push, else-counts-symbol}

pub loop-symbol-preserved : goal.loop-symbol-preserved
loop-symbol-preserved c =
    elim c.if-counts-symbol.branch [
      | then-counts-symbol+in_ok-leaf_body+in_ok-push w ↦
          let there : c.loop-symbol.symbol < length c.loop-symbol.places = omega (arith, c.loop-symbol-test.true, c.loop-symbol.auto.places, c.requires.len) in
          let many : 0 < get_or c.args.counts.now c.loop-symbol.symbol 0 = omega (arith, w.if-counts-symbol.true, c.requires.least) in
          let added = leaf-added c.args.counts.now c.loop-symbol.places c.if-counts-symbol.places c.loop-symbol.symbol (length w.as_slice.result.now) c.loop-symbol.leaves c.if-counts-symbol.leaves
          (record { rank = 1; body = w.in_ok-leaf_body.field-0 }) c.loop-symbol.invariant.rules c.loop-symbol.invariant.later there many w.places-is (ap length w.as_slice.ensures)
          (ap (λ b. record { rank = 1; body = b }) w.in_ok-leaf_body.ensures) (w.leaves-is ∙ w.in_ok-push.ensures.ok) in
          record { rules = added.rules; later = added.later }
      | else-counts-symbol w ↦ record {
        rules = subst (λ ps. AreLeafRules c.args.counts.now ps c.if-counts-symbol.leaves) (sym w.places-is) (subst (AreLeafRules c.args.counts.now c.loop-symbol.places) (sym w.leaves-is) c.loop-symbol.invariant.rules);
        later = λ f h. ap (λ ps. get_or ps f None) w.places-is ∙ c.loop-symbol.invariant.later f (omega (arith, h));
      }
    ]
