use Rattle.std.proofs.Common.{◌≡◌, length, arith, ap}
use Rattle.slt_grammar.specs.Bodies.{params, real_nodes}
use Rattle.slt_grammar.specs.Grammars.{body_at}
use Rattle.slt_grammar.specs.declared.rules.Rule.{Rule}
use Rattle.slt_grammar.proofs.CallCounts.{nodes-room, real_nodes-are, sum-more}
use Rattle.slt_grammar.proofs.counting.count_nodes.Goals as goal

pub overflow_sub-size : goal.overflow_sub-size
overflow_sub-size c = omega (arith, real_nodes-are c.body_of-body.result.now, c.count_params.ensures)

pub overflow_add-size : goal.overflow_add-size
overflow_add-size c =
    let n : length c.body_of-body.result.now ≡ length (body_at c.args.rules.now c.loop-rule.rule) = ap length c.body_of-body.ensures in
    omega (arith, n, nodes-room c.args.rules.now c.loop-rule.rule c.loop-rule-test.true, c.loop-rule.invariant, c.requires)

pub loop-rule-preserved : goal.loop-rule-preserved
loop-rule-preserved c =
    let e = c.body_of-body.ensures in
    let n : length c.body_of-body.result.now ≡ length (body_at c.args.rules.now c.loop-rule.rule) = ap length e in
    let p : params c.body_of-body.result.now ≡ params (body_at c.args.rules.now c.loop-rule.rule) = ap params e in
    let k = real_nodes-are (body_at c.args.rules.now c.loop-rule.rule) in
    let s = sum-more (λ (R : Rule). real_nodes R.body) c.args.rules.now c.loop-rule.rule c.loop-rule-test.true in
    omega (arith, n, p, k, s, c.count_params.ensures, c.loop-rule.invariant)
