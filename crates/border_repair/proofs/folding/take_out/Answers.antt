use Rattle.std.proofs.Common.{None, set, arith}
use Rattle.border_repair.proofs.SizeLemmas.{live-reverse, live-set}
use Rattle.border_repair.proofs.folding.take_out.Goals as goal

pub returns-then-at-len-clause-size : goal.returns-then-at-len-clause-size
returns-then-at-len-clause-size c =
    let L = c.args.labels.now.items in
    omega (arith, live-reverse (set L c.args.at None), live-set L c.args.at, live-reverse L)
