use Rattle.std.proofs.Common.{◌∙◌}
use Rattle.pair_replace.proofs.Bodies.{parameter-pushed}
use Rattle.pair_replace.proofs.new_rule.push_parameters.Goals as goal

pub loop-done-preserved : goal.loop-done-preserved
loop-done-preserved c = c.in_ok-push.ensures.ok ∙ parameter-pushed c.args.body.now c.loop-done.body c.loop-done.done c.loop-done.invariant
