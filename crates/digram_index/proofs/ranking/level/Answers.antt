use Rattle.std.proofs.Common.{arith}
use Rattle.digram_index.proofs.Levels.{digits-level, first-digit, five-digits, level-itself}
use Rattle.digram_index.proofs.ranking.level.Goals as goal

pub returns-then-key-lt32-clause-level : goal.returns-then-key-lt32-clause-level
returns-then-key-lt32-clause-level c = level-itself c.args.key c.if-key-lt32.true

pub overflow_sub-doublings : goal.overflow_sub-doublings
overflow_sub-doublings c = let p = first-digit c.args.key c.ilog2.result c.if-key-lt32.false c.requires c.ilog2.ensures.power_le c.ilog2.ensures.next_power_gt in omega (arith, p.0)

pub returns-clause-small : goal.returns-clause-small
returns-clause-small c =
    let p = first-digit c.args.key c.ilog2.result c.if-key-lt32.false c.requires c.ilog2.ensures.power_le c.ilog2.ensures.next_power_gt in
    omega (arith, p.1, five-digits c.args.key c.ilog2.result p.0 c.ilog2.ensures.next_power_gt)

pub returns-clause-level : goal.returns-clause-level
returns-clause-level c =
    let p = first-digit c.args.key c.ilog2.result c.if-key-lt32.false c.requires c.ilog2.ensures.power_le c.ilog2.ensures.next_power_gt in
    digits-level c.args.key c.ilog2.result p.0 c.ilog2.ensures.power_le c.ilog2.ensures.next_power_gt
