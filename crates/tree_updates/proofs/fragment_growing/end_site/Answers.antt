use Rattle.std.proofs.Common.{arith}
use Rattle.tree_updates.proofs.AppendedStores.{end-fits, end-site, some-nodes}
use Rattle.tree_updates.proofs.GrownStores.{texts-few}
use Rattle.tree_updates.proofs.LeavingDocuments.{coded}
use Rattle.tree_updates.proofs.NodeExtents.{spot-low}
use Rattle.tree_updates.proofs.fragment_growing.end_site.Goals as goal

pub overflow_add-result : goal.overflow_add-result
overflow_add-result c =
    let s = c.args.store.now in
    let r = c.requires.store in
    let n = c.args.number in
    let x = c.args.extent in
    let low = spot-low s.names s.grammar.rules r.0 n c.args.spot.now r.1.stand.code c.requires.spot in
    let fits = end-fits r.0 n low x (c.requires.extent r.0 (coded s r.0 r.1)) c.place.result (c.place.ensures s.names s.grammar.rules n r.0 c.requires.spot r.1.stand.code) in
    omega (arith, fits.0, r.1.small)

pub overflow_mul-result : goal.overflow_mul-result
overflow_mul-result c =
    let s = c.args.store.now in
    let r = c.requires.store in
    let n = c.args.number in
    let x = c.args.extent in
    let low = spot-low s.names s.grammar.rules r.0 n c.args.spot.now r.1.stand.code c.requires.spot in
    let fits = end-fits r.0 n low x (c.requires.extent r.0 (coded s r.0 r.1)) c.place.result (c.place.ensures s.names s.grammar.rules n r.0 c.requires.spot r.1.stand.code) in
    omega (arith, fits.0, r.1.small)

pub overflow_sub-result : goal.overflow_sub-result
overflow_sub-result c =
    let s = c.args.store.now in
    let r = c.requires.store in
    let n = c.args.number in
    let x = c.args.extent in
    let low = spot-low s.names s.grammar.rules r.0 n c.args.spot.now r.1.stand.code c.requires.spot in
    omega (arith, some-nodes r.0 n low x (c.requires.extent r.0 (coded s r.0 r.1)))

pub overflow_add-result-2 : goal.overflow_add-result-2
overflow_add-result-2 c =
    let s = c.args.store.now in
    let r = c.requires.store in
    let n = c.args.number in
    let x = c.args.extent in
    let low = spot-low s.names s.grammar.rules r.0 n c.args.spot.now r.1.stand.code c.requires.spot in
    let fits = end-fits r.0 n low x (c.requires.extent r.0 (coded s r.0 r.1)) c.place.result (c.place.ensures s.names s.grammar.rules n r.0 c.requires.spot r.1.stand.code) in
    omega (arith, fits.1, texts-few r.0, r.1.small)

pub returns : goal.returns
returns c = λ t i.
    let s = c.args.store.now in
    let n = c.args.number in
    let low = spot-low s.names s.grammar.rules t n c.args.spot.now i.code c.requires.spot in
    end-site t n low c.args.extent (c.requires.extent t i) c.place.result (c.place.ensures s.names s.grammar.rules n t c.requires.spot i.code)
