use Rattle.std.proofs.Common.{◌^◌, arith}
use Rattle.digram_index.proofs.call_chains.CallChains.extend.Goals as goal

pub invariant_of-self : goal.invariant_of-self
invariant_of-self c =
    let l = c.if-limit-gt-MOST.false in
    let e = c.self.invariant in
    c.fill.ensures.most (2 ^ 31) (omega arith) e
