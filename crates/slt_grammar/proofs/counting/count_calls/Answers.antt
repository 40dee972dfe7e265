use Rattle.std.proofs.Common.{◌<◌, length, arith, ap}
use Rattle.slt_grammar.specs.Grammars.{body_at}
use Rattle.slt_grammar.proofs.CallCounts.{below-more, calls-room}
use Rattle.slt_grammar.proofs.counting.count_calls.Goals as goal

pub add_calls-requires-clause-there : goal.add_calls-requires-clause-there
add_calls-requires-clause-there c =
    rw (c.loop-rule.invariant.len, c.body_of.ensures) (below-more c.loop-rule.rule (length c.args.rules.now) (body_at c.args.rules.now c.loop-rule.rule) (omega (arith, c.loop-rule-test.true)) (c.requires.grammar.each c.loop-rule.rule c.loop-rule-test.true).earlier)

pub add_calls-requires-clause-few : goal.add_calls-requires-clause-few
add_calls-requires-clause-few c = λ q h.
    let k : q < length c.args.rules.now = omega (arith, c.loop-rule.invariant.len, h) in
    omega (arith, ap length c.body_of.ensures, c.loop-rule.invariant.calls q k, calls-room q c.args.rules.now c.loop-rule.rule c.loop-rule-test.true, c.requires.few)
