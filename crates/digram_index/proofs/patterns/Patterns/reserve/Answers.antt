use Rattle.std.proofs.Common.{length, ap, arith}
use Rattle.digram_index.proofs.CellLemmas.{on-ok}
use Rattle.digram_index.proofs.patterns.Patterns.reserve.Goals as goal

pub returns-clause-room : goal.returns-clause-room
returns-clause-room c = on-ok _ _ c.reserve.result (λ h.
    let k = c.in_ok-extend.ensures.room in
    let f = c.in_ok-extend.ensures.few in
    let s = c.saturating_add.ensures in
    let n = c.len-count.ensures.len in
    let e = ap length c.reserve.ensures.keys in
    omega arith) c.reserve.ensures.ok
