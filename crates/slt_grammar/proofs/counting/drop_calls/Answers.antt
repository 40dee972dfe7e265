use Rattle.std.proofs.Common.{arith, ap, get_or}
use Rattle.slt_grammar.proofs.CallCounts.{uncounted, not-counted, call-here, below-next, below-call}
use Rattle.slt_grammar.proofs.counting.drop_calls.Goals as goal
use Rattle.slt_grammar.proofs.counting.drop_calls.Goals.{in-Call, in_default}

pub loop-label-preserved : goal.loop-label-preserved
loop-label-preserved c =
    let i = c.loop-label.label-index in
    let body = c.args.labels.now in
    let I = c.loop-label.invariant in
    let below = below-next _ i body c.loop-label-test.true I.there in
    let len = c.match-label.auto.calls in
    elim c.match-label.branch [
      | in-Call w ↦
          let k = below-call _ i w.in-Call.rule body c.loop-label-test.true w.in-Call.is I.there in
          let p = call-here i w.in-Call.rule body c.loop-label-test.true w.in-Call.is in
          record {
            len = omega (arith, I.len, len);
            there = below;
            counted = λ q h. omega (arith, I.counted q h, uncounted q i w.in-Call.rule body c.loop-label.calls c.match-label.calls c.loop-label-test.true w.in-Call.is (omega (arith, k, I.len)) (omega (arith, p, I.counted w.in-Call.rule k)) w.calls-is);
            calls = λ q h. omega (arith, I.calls q h, uncounted q i w.in-Call.rule body c.loop-label.calls c.match-label.calls c.loop-label-test.true w.in-Call.is (omega (arith, k, I.len)) (omega (arith, p, I.counted w.in-Call.rule k)) w.calls-is);
          }
      | in_default w ↦ record {
        len = omega (arith, I.len, len);
        there = below;
        counted = λ q h. omega (arith, I.counted q h, ap (λ xs. get_or xs q 0) w.calls-is, not-counted q i body c.loop-label-test.true w.in_default.not-Call);
        calls = λ q h. omega (arith, I.calls q h, ap (λ xs. get_or xs q 0) w.calls-is, not-counted q i body c.loop-label-test.true w.in_default.not-Call);
      }
    ]
