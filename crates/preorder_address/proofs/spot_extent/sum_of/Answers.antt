use Rattle.std.proofs.Common.{◌+◌, arith}
use Rattle.preorder_address.proofs.RangeSums.{take-more, take-under}
use Rattle.preorder_address.proofs.spot_extent.sum_of.Goals as goal

pub overflow_add-sum : goal.overflow_add-sum
overflow_add-sum c =
    let ws = c.args.weights.now in
    omega (arith, c.loop-kid.invariant, take-more c.loop-kid.kid ws, take-under (c.loop-kid.kid + 1) c.args.count ws (omega (arith, c.loop-kid-test.true)), c.requires.small)

pub loop-kid-preserved : goal.loop-kid-preserved
loop-kid-preserved c = omega (arith, c.loop-kid.invariant, take-more c.loop-kid.kid c.args.weights.now)
