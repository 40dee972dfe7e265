use Rattle.content_models.specs.declared.postfix.Op.TheVariants.{PushNothing}
use Rattle.content_models.specs.Passing.{fronts_in}
use Rattle.content_models.proofs.Placing.{passed-on, read-here}
use Rattle.content_models.proofs.compiling.read_fronts.Goals as goal

pub ops-preserved : goal.ops-preserved
ops-preserved c =
    passed-on c.args.code.now c.ops.fronts.items c.push.new.self.items (fronts_in c.ops.pass) (fronts_in c.apply.new.self) c.ops.pass.at c.apply.new.self.at c.ops.op-index c.op-item.result c.in_ok-front.front
    c.ops-test.true (read-here c.args.code.now c.ops.op-index c.op-item.result PushNothing c.ops-test.true c.op-item.is) c.in_ok-front.ensures.front c.in_ok-push.ensures.items c.in_ok-front.ensures.fronts c.in_ok-front.ensures.at c.ops.invariant
